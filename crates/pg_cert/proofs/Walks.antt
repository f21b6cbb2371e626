-- Lists of parts that are gone through from a place on.
use Rattle.std.proofs.Common.{◌≡◌, ℕ, suc, ◌+◌, ◌<◌, ◌≤◌, true, false, cond, ℤ, List, [], ◌∷◌, ◌++◌, length, drop, Some, None, Option, sym, ap, ◌∙◌, refl, arith, append_assoc, length-drop, drop-cons, eq-eqb}
use Rattle.std.specs.Prelude.{◌==◌}
use Rattle.std.proofs.lemmas.List.{append-nil, drop_all}
use Rattle.std.proofs.lemmas.Bool.Decides.{nat_tests}
use Rattle.pg_text.specs.Printing.{hex_word_of}
use Rattle.pg_cert.specs.Lines.{most_number}
use Rattle.pg_cert.specs.Reading.{then_read, read_number, read_lit, read_lits, read_numbers, read_words, is_zero, part_at}

-- the parts from a place on
from_place : (parts : List (List ℕ)) (i : ℕ) (part : List ℕ) → i < length parts → part ≡ part_at parts i → drop i parts ≡ part ∷ drop (i + 1) parts
from_place parts i part l e =
    let next : suc i ≡ i + 1 = omega arith in
    drop-cons parts i [] l ∙ ap (λ (p : List ℕ). p ∷ drop (suc i) parts) (sym e) ∙ ap (λ k. part ∷ drop k parts) next

module _ {X : Type 0} where
  -- what was read so far, with one more
  one_more : (so_far : List X) (x : X) (rest : Option (List X)) → then_read (then_read rest (λ xs. Some (x ∷ xs))) (λ xs. Some (so_far ++ xs)) ≡ then_read rest (λ xs. Some ((so_far ++ x ∷ []) ++ xs))
  one_more so_far x None = refl
  one_more so_far x (Some xs) = ap (λ all. Some all) (sym (append_assoc so_far (x ∷ []) xs))

-- ---- numbers up to a 0

abbrev AreNumbersSoFar : Option (List ℕ) → List ℕ → ℕ → List (List ℕ) → Type 0
AreNumbersSoFar whole so_far i parts = whole ≡ then_read (read_numbers (drop i parts)) (λ ns. Some (so_far ++ ns))

numbers_at : (whole : Option (List ℕ)) (so_far : List ℕ) (i : ℕ) (parts : List (List ℕ)) (part : List ℕ) (v : Option ℕ) → i < length parts → part ≡ part_at parts i → v ≡ read_number most_number part → AreNumbersSoFar whole so_far i parts
    → whole ≡ then_read (then_read v (λ n. cond (n == 0) (cond (length (drop (i + 1) parts) == 0) (Some []) None) (then_read (read_numbers (drop (i + 1) parts)) (λ ns. Some (n ∷ ns))))) (λ ns. Some (so_far ++ ns))
unfolding read_numbers
numbers_at whole so_far i parts part v l e r h =
    let tail : List (List ℕ) = drop (i + 1) parts in
    let go : ℕ → Option (List ℕ) = λ n. cond (n == 0) (cond (length tail == 0) (Some []) None) (then_read (read_numbers tail) (λ ns. Some (n ∷ ns))) in
    h ∙ ap (λ ps. then_read (read_numbers ps) (λ ns. Some (so_far ++ ns))) (from_place parts i part l e)
    ∙ ap (λ o. then_read (then_read o go) (λ ns. Some (so_far ++ ns))) (sym r)

pub numbers_none : (whole : Option (List ℕ)) (so_far : List ℕ) (i : ℕ) (parts : List (List ℕ)) (part : List ℕ) (v : Option ℕ) → i < length parts → part ≡ part_at parts i → v ≡ read_number most_number part → v ≡ None → AreNumbersSoFar whole so_far i parts → None ≡ whole
numbers_none whole so_far i parts part v l e r n h = sym (numbers_at whole so_far i parts part None l e (sym n ∙ r) h)

pub numbers_end : (whole : Option (List ℕ)) (so_far : List ℕ) (i : ℕ) (parts : List (List ℕ)) (part : List ℕ) (v : Option ℕ) (n : ℕ) → i < length parts → part ≡ part_at parts i → v ≡ read_number most_number part → v ≡ Some n → n ≡ 0 → i + 1 ≡ length parts → AreNumbersSoFar whole so_far i parts → Some so_far ≡ whole
numbers_end whole so_far i parts part v n l e r some z last h =
    let none_left : length (drop (i + 1) parts) ≡ 0 = omega (arith, length-drop (i + 1) parts) in
    let zero_test : (n == 0) ≡ true = eq-eqb n 0 z in
    let last_test : (length (drop (i + 1) parts) == 0) ≡ true = eq-eqb (length (drop (i + 1) parts)) 0 none_left in
    let rest : Option (List ℕ) = then_read (read_numbers (drop (i + 1) parts)) (λ ns. Some (n ∷ ns)) in
    sym (numbers_at whole so_far i parts part (Some n) l e (sym some ∙ r) h
    ∙ ap (λ b. then_read (cond b (cond (length (drop (i + 1) parts) == 0) (Some []) None) rest) (λ ns. Some (so_far ++ ns))) zero_test
    ∙ ap (λ b. then_read (cond b (Some []) None) (λ ns. Some (so_far ++ ns))) last_test
    ∙ ap (λ all. Some all) (append-nil so_far))

unequal : (m n : ℕ) → (m ≡ n → ⊥) → (m == n) ≡ false
unequal m n h = grind (arith, nat_tests)

pub numbers_behind : (whole : Option (List ℕ)) (so_far : List ℕ) (i : ℕ) (parts : List (List ℕ)) (part : List ℕ) (v : Option ℕ) (n : ℕ) → i < length parts → part ≡ part_at parts i → v ≡ read_number most_number part → v ≡ Some n → n ≡ 0 → (i + 1 ≡ length parts → ⊥) → AreNumbersSoFar whole so_far i parts → None ≡ whole
numbers_behind whole so_far i parts part v n l e r some z last h =
    let some_left : length (drop (i + 1) parts) ≡ 0 → ⊥ = λ same. last (omega (arith, length-drop (i + 1) parts, same)) in
    let zero_test : (n == 0) ≡ true = eq-eqb n 0 z in
    let last_test : (length (drop (i + 1) parts) == 0) ≡ false = unequal (length (drop (i + 1) parts)) 0 some_left in
    let rest : Option (List ℕ) = then_read (read_numbers (drop (i + 1) parts)) (λ ns. Some (n ∷ ns)) in
    sym (numbers_at whole so_far i parts part (Some n) l e (sym some ∙ r) h
    ∙ ap (λ b. then_read (cond b (cond (length (drop (i + 1) parts) == 0) (Some []) None) rest) (λ ns. Some (so_far ++ ns))) zero_test
    ∙ ap (λ b. then_read (cond b (Some []) None) (λ ns. Some (so_far ++ ns))) last_test)

pub numbers_more : (whole : Option (List ℕ)) (so_far more : List ℕ) (i : ℕ) (parts : List (List ℕ)) (part : List ℕ) (v : Option ℕ) (n : ℕ) → i < length parts → part ≡ part_at parts i → v ≡ read_number most_number part → v ≡ Some n → (n ≡ 0 → ⊥) → more ≡ so_far ++ n ∷ [] → AreNumbersSoFar whole so_far i parts → AreNumbersSoFar whole more (i + 1) parts
numbers_more whole so_far more i parts part v n l e r some z m h =
    let zero_test : (n == 0) ≡ false = unequal n 0 z in
    let rest : Option (List ℕ) = then_read (read_numbers (drop (i + 1) parts)) (λ ns. Some (n ∷ ns)) in
    numbers_at whole so_far i parts part (Some n) l e (sym some ∙ r) h
    ∙ ap (λ b. then_read (cond b (cond (length (drop (i + 1) parts) == 0) (Some []) None) rest) (λ ns. Some (so_far ++ ns))) zero_test
    ∙ one_more so_far n (read_numbers (drop (i + 1) parts))
    ∙ ap (λ (all : List ℕ). then_read (read_numbers (drop (i + 1) parts)) (λ ns. Some (all ++ ns))) (sym m)

pub numbers_over : (whole : Option (List ℕ)) (so_far : List ℕ) (i : ℕ) (parts : List (List ℕ)) → length parts ≤ i → AreNumbersSoFar whole so_far i parts → None ≡ whole
unfolding read_numbers
numbers_over whole so_far i parts l h =
    sym (h ∙ ap (λ ps. then_read (read_numbers ps) (λ ns. Some (so_far ++ ns))) (drop_all i parts l))

-- ---- words

abbrev AreWordsSoFar : ℕ → Option (List ℕ) → List ℕ → ℕ → List (List ℕ) → Type 0
AreWordsSoFar w whole so_far i parts = whole ≡ then_read (read_words w (drop i parts)) (λ xs. Some (so_far ++ xs))

words_at : (w : ℕ) (whole : Option (List ℕ)) (so_far : List ℕ) (i : ℕ) (parts : List (List ℕ)) (part : List ℕ) (v : Option ℕ) → i < length parts → part ≡ part_at parts i → v ≡ hex_word_of w part → AreWordsSoFar w whole so_far i parts
    → whole ≡ then_read (then_read v (λ x. then_read (read_words w (drop (i + 1) parts)) (λ xs. Some (x ∷ xs)))) (λ xs. Some (so_far ++ xs))
unfolding read_words
words_at w whole so_far i parts part v l e r h =
    let go : ℕ → Option (List ℕ) = λ x. then_read (read_words w (drop (i + 1) parts)) (λ xs. Some (x ∷ xs)) in
    h ∙ ap (λ ps. then_read (read_words w ps) (λ xs. Some (so_far ++ xs))) (from_place parts i part l e)
    ∙ ap (λ o. then_read (then_read o go) (λ xs. Some (so_far ++ xs))) (sym r)

pub words_none : (w : ℕ) (whole : Option (List ℕ)) (so_far : List ℕ) (i : ℕ) (parts : List (List ℕ)) (part : List ℕ) (v : Option ℕ) → i < length parts → part ≡ part_at parts i → v ≡ hex_word_of w part → v ≡ None → AreWordsSoFar w whole so_far i parts → None ≡ whole
words_none w whole so_far i parts part v l e r n h = sym (words_at w whole so_far i parts part None l e (sym n ∙ r) h)

pub words_more : (w : ℕ) (whole : Option (List ℕ)) (so_far more : List ℕ) (i : ℕ) (parts : List (List ℕ)) (part : List ℕ) (v : Option ℕ) (x : ℕ) → i < length parts → part ≡ part_at parts i → v ≡ hex_word_of w part → v ≡ Some x → more ≡ so_far ++ x ∷ [] → AreWordsSoFar w whole so_far i parts → AreWordsSoFar w whole more (i + 1) parts
words_more w whole so_far more i parts part v x l e r some m h =
    words_at w whole so_far i parts part (Some x) l e (sym some ∙ r) h
    ∙ one_more so_far x (read_words w (drop (i + 1) parts))
    ∙ ap (λ (all : List ℕ). then_read (read_words w (drop (i + 1) parts)) (λ xs. Some (all ++ xs))) (sym m)

pub words_over : (w : ℕ) (whole : Option (List ℕ)) (so_far : List ℕ) (i : ℕ) (parts : List (List ℕ)) → length parts ≤ i → AreWordsSoFar w whole so_far i parts → Some so_far ≡ whole
unfolding read_words
words_over w whole so_far i parts l h =
    sym (h ∙ ap (λ ps. then_read (read_words w ps) (λ xs. Some (so_far ++ xs))) (drop_all i parts l) ∙ ap (λ all. Some all) (append-nil so_far))

-- ---- literals up to a 0

abbrev AreLitsSoFar : Option (List ℤ × List (List ℕ)) → List ℤ → ℕ → List (List ℕ) → Type 0
AreLitsSoFar whole so_far i parts = whole ≡ then_read (read_lits (drop i parts)) (λ r. Some (so_far ++ r.0, r.1))

one_more_lit : (so_far : List ℤ) (z : ℤ) (rest : Option (List ℤ × List (List ℕ))) → then_read {X = List ℤ × List (List ℕ)} {Y = List ℤ × List (List ℕ)} (then_read {X = List ℤ × List (List ℕ)} {Y = List ℤ × List (List ℕ)} rest (λ r. Some (z ∷ r.0, r.1))) (λ r. Some (so_far ++ r.0, r.1)) ≡ then_read {X = List ℤ × List (List ℕ)} {Y = List ℤ × List (List ℕ)} rest (λ r. Some ((so_far ++ z ∷ []) ++ r.0, r.1))
one_more_lit so_far z None = refl
one_more_lit so_far z (Some r) = ap (λ (all : List ℤ). Some (all, r.1)) (sym (append_assoc so_far (z ∷ []) r.0))

lits_at : (whole : Option (List ℤ × List (List ℕ))) (so_far : List ℤ) (i : ℕ) (parts : List (List ℕ)) (part : List ℕ) (v : Option ℤ) → i < length parts → part ≡ part_at parts i → v ≡ read_lit part → AreLitsSoFar whole so_far i parts
    → whole ≡ then_read {X = List ℤ × List (List ℕ)} {Y = List ℤ × List (List ℕ)} (then_read {X = ℤ} {Y = List ℤ × List (List ℕ)} v (λ z. cond (is_zero z) (Some ([], drop (i + 1) parts)) (then_read (read_lits (drop (i + 1) parts)) (λ r. Some (z ∷ r.0, r.1))))) (λ r. Some (so_far ++ r.0, r.1))
unfolding read_lits
lits_at whole so_far i parts part v l e r h =
    let tail : List (List ℕ) = drop (i + 1) parts in
    let go : ℤ → Option (List ℤ × List (List ℕ)) = λ z. cond (is_zero z) (Some ([], tail)) (then_read (read_lits tail) (λ r. Some (z ∷ r.0, r.1))) in
    let last : (List ℤ × List (List ℕ)) → Option (List ℤ × List (List ℕ)) = λ r. Some (so_far ++ r.0, r.1) in
    h ∙ ap (λ ps. then_read (read_lits ps) last) (from_place parts i part l e)
    ∙ ap (λ o. then_read (then_read o go) last) (sym r)

pub lits_none : (whole : Option (List ℤ × List (List ℕ))) (so_far : List ℤ) (i : ℕ) (parts : List (List ℕ)) (part : List ℕ) (v : Option ℤ) → i < length parts → part ≡ part_at parts i → v ≡ read_lit part → v ≡ None → AreLitsSoFar whole so_far i parts → whole ≡ None
lits_none whole so_far i parts part v l e r n h = lits_at whole so_far i parts part None l e (sym n ∙ r) h

pub lits_end : (whole : Option (List ℤ × List (List ℕ))) (so_far : List ℤ) (i : ℕ) (parts : List (List ℕ)) (part : List ℕ) (v : Option ℤ) (z : ℤ) → i < length parts → part ≡ part_at parts i → v ≡ read_lit part → v ≡ Some z → is_zero z ≡ true → AreLitsSoFar whole so_far i parts → whole ≡ Some (so_far, drop (i + 1) parts)
lits_end whole so_far i parts part v z l e r some zero_is h =
    let tail : List (List ℕ) = drop (i + 1) parts in
    let rest : Option (List ℤ × List (List ℕ)) = then_read (read_lits tail) (λ r. Some (z ∷ r.0, r.1)) in
    let last : (List ℤ × List (List ℕ)) → Option (List ℤ × List (List ℕ)) = λ r. Some (so_far ++ r.0, r.1) in
    lits_at whole so_far i parts part (Some z) l e (sym some ∙ r) h
    ∙ ap (λ b. then_read (cond b (Some ([], tail)) rest) last) zero_is
    ∙ ap (λ (all : List ℤ). Some (all, tail)) (append-nil so_far)

pub lits_more : (whole : Option (List ℤ × List (List ℕ))) (so_far more : List ℤ) (i : ℕ) (parts : List (List ℕ)) (part : List ℕ) (v : Option ℤ) (z : ℤ) → i < length parts → part ≡ part_at parts i → v ≡ read_lit part → v ≡ Some z → is_zero z ≡ false → more ≡ so_far ++ z ∷ [] → AreLitsSoFar whole so_far i parts → AreLitsSoFar whole more (i + 1) parts
lits_more whole so_far more i parts part v z l e r some other m h =
    let tail : List (List ℕ) = drop (i + 1) parts in
    let rest : Option (List ℤ × List (List ℕ)) = then_read (read_lits tail) (λ r. Some (z ∷ r.0, r.1)) in
    let last : (List ℤ × List (List ℕ)) → Option (List ℤ × List (List ℕ)) = λ r. Some (so_far ++ r.0, r.1) in
    lits_at whole so_far i parts part (Some z) l e (sym some ∙ r) h
    ∙ ap (λ b. then_read (cond b (Some ([], tail)) rest) last) other
    ∙ one_more_lit so_far z (read_lits tail)
    ∙ ap (λ (all : List ℤ). then_read (read_lits tail) (λ r. Some (all ++ r.0, r.1))) (sym m)

pub lits_over : (whole : Option (List ℤ × List (List ℕ))) (so_far : List ℤ) (i : ℕ) (parts : List (List ℕ)) → length parts ≤ i → AreLitsSoFar whole so_far i parts → whole ≡ None
unfolding read_lits
lits_over whole so_far i parts l h =
    let last : (List ℤ × List (List ℕ)) → Option (List ℤ × List (List ℕ)) = λ r. Some (so_far ++ r.0, r.1) in
    h ∙ ap (λ ps. then_read (read_lits ps) last) (drop_all i parts l)
