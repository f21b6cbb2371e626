-- Lets that stay visible.
use Rattle.std.proofs.Common.{◌≡◌, ℕ, ◌+◌, ◌-◌, ◌≤◌, List, ◌∷◌, ◌++◌, length, take, drop, reverse, ap, sym, ◌∙◌, arith, map}
use Rattle.std.proofs.lemmas.List.{length-drop, take-append-drop, reverse-append, length-reverse, drop-drop, drop_at, take-map}
use Rattle.pg_lang_valid.specs.Widths.{LetWidths}
use Rattle.pg_lang_valid.specs.Fares.{Grows}

pub grows_none : (a : LetWidths) → Grows a a
grows_none a = record { kept = ap (λ n. drop n a) (let e : length a - length a ≡ 0 = omega arith in e); longer = omega arith }

pub grows_let : (a : LetWidths) (x : List ℕ × ℕ) → Grows a (x ∷ a)
grows_let a x = record { kept = ap (λ n. drop n (x ∷ a)) (let e : length (x ∷ a) - length a ≡ 1 = omega arith in e); longer = omega arith }

pub grows_twice : (a b c : LetWidths) → Grows a b → Grows b c → Grows a c
grows_twice a b c e f = record {
  kept =
      let n : length c - length a ≡ (length c - length b) + (length b - length a) = omega (arith, e.longer, f.longer) in
      ap (λ k. drop k c) n ∙ sym (drop-drop (length b - length a) (length c - length b) c)
      ∙ ap (drop (length b - length a)) f.kept ∙ e.kept;
  longer = omega (arith, e.longer, f.longer);
}

-- the oldest of a list, seen from its end
pub oldest : {X : Type 0} (xs : List X) (n : ℕ) → n ≤ length xs → reverse (take n xs) ≡ drop (length (reverse xs) - n) (reverse xs)
oldest xs n h =
    let split : reverse xs ≡ reverse (drop n xs) ++ reverse (take n xs) =
    ap reverse (sym (take-append-drop n xs)) ∙ reverse-append (take n xs) (drop n xs) in
    let over : length (reverse (drop n xs)) ≡ length (reverse xs) - n =
    length-reverse (drop n xs) ∙ length-drop n xs ∙ ap (λ k. k - n) (sym (length-reverse xs)) in
    sym (ap (drop (length (reverse xs) - n)) split ∙ drop_at (reverse (drop n xs)) (reverse (take n xs)) (length (reverse xs) - n) over)

pub ruleset grow_rules = (grows_none, grows_let, grows_twice)

-- the oldest lets of a list, as they are seen
pub oldest_seen : {X : Type 0} (f : X → List ℕ × ℕ) (xs ys : List X) (n : ℕ) (seen : LetWidths) →
    ys ≡ take n xs → reverse (map f xs) ≡ seen → n ≤ length seen → reverse (map f ys) ≡ drop (length seen - n) seen
oldest_seen f xs ys n seen e v h =
    let room : n ≤ length (map f xs) = omega (arith, ap length v, length-reverse (map f xs)) in
    ap (λ zs. reverse (map f zs)) e ∙ ap reverse (sym (take-map f n xs)) ∙ oldest (map f xs) n room
    ∙ ap (λ zs. drop (length zs - n) zs) v
