-- Characters, byte by byte.
use Rattle.std.proofs.Common.{◌≡◌, ℕ, suc, ◌+◌, ◌-◌, ◌<◌, ◌==◌, if◌then◌else◌, List, ◌∷◌, length, drop, get_or, sym, ap, subst, ◌∙◌, arith}
use Rattle.std.proofs.lemmas.List.{drop_more}
use Rattle.pg_out_place.specs.Places.{char_len, chars_behind}

-- the byte at k is passed over
chars_next : (due k : ℕ) (xs : List ℕ) → k < length xs → chars_behind due (drop k xs) ≡ (if due == 0 then suc (chars_behind (char_len (drop k xs) - 1) (drop (k + 1) xs)) else chars_behind (due - 1) (drop (k + 1) xs))
unfolding chars_behind
chars_next due k xs lt =
    let split : drop k xs ≡ get_or xs k 0 ∷ drop (k + 1) xs = drop_more xs k 0 lt in
    ap (λ ys. chars_behind due ys) split
    ∙ ap (λ ys. if due == 0 then suc (chars_behind (char_len ys - 1) (drop (k + 1) xs)) else chars_behind (due - 1) (drop (k + 1) xs)) (sym split)

-- a character begins at k
pub chars_begun : (count due k total count' due' : ℕ) (xs : List ℕ) → k < length xs → due ≡ 0 → count' ≡ count + 1 → due' ≡ char_len (drop k xs) - 1 → count + chars_behind due (drop k xs) ≡ total → count' + chars_behind due' (drop (k + 1) xs) ≡ total
chars_begun count due k total count' due' xs lt e ec ed h =
    let was : count + chars_behind 0 (drop k xs) ≡ total = subst (λ n. count + chars_behind n (drop k xs) ≡ total) e h in
    let next : chars_behind 0 (drop k xs) ≡ suc (chars_behind (char_len (drop k xs) - 1) (drop (k + 1) xs)) = chars_next 0 k xs lt in
    let same : chars_behind due' (drop (k + 1) xs) ≡ chars_behind (char_len (drop k xs) - 1) (drop (k + 1) xs) = ap (λ n. chars_behind n (drop (k + 1) xs)) ed in
    omega arith

-- the byte at k is of the character before
pub chars_gone_on : (count due k total count' due' : ℕ) (xs : List ℕ) → k < length xs → 0 < due → count' ≡ count → due' ≡ due - 1 → count + chars_behind due (drop k xs) ≡ total → count' + chars_behind due' (drop (k + 1) xs) ≡ total
chars_gone_on count due k total count' due' xs lt e ec ed h =
    let next : chars_behind due (drop k xs) ≡ (if due == 0 then suc (chars_behind (char_len (drop k xs) - 1) (drop (k + 1) xs)) else chars_behind (due - 1) (drop (k + 1) xs)) = chars_next due k xs lt in
    let same : chars_behind due' (drop (k + 1) xs) ≡ chars_behind (due - 1) (drop (k + 1) xs) = ap (λ n. chars_behind n (drop (k + 1) xs)) ed in
    grind arith
