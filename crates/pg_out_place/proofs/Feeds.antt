-- Line feeds of the fronts of a text.
use Rattle.std.proofs.Common.{◌≡◌, ℕ, zero, suc, ◌+◌, ◌-◌, ◌<◌, ◌≤◌, ◌==◌, if◌then◌else◌, List, [], ◌∷◌, length, take, drop, get_or, refl, ap, ◌∙◌, arith}
use Rattle.std.proofs.lemmas.List.{drop_more}
use Rattle.pg_out_place.specs.Places.{feeds}

-- a text cut in two
feeds_cut : (k : ℕ) (xs : List ℕ) → feeds (take k xs) + feeds (drop k xs) ≡ feeds xs
unfolding feeds
feeds_cut zero xs = omega arith
feeds_cut (suc k) [] = refl
feeds_cut (suc k) (x ∷ xs) = let rest : feeds (take k xs) + feeds (drop k xs) ≡ feeds xs = feeds_cut k xs in grind arith

-- a line feed is passed over
feeds_passed : (k : ℕ) (xs : List ℕ) → k < length xs → get_or xs k 0 ≡ 10 → feeds (drop k xs) ≡ suc (feeds (drop (k + 1) xs))
unfolding feeds
feeds_passed k xs lt e =
    ap (λ ys. feeds ys) (drop_more xs k 0 lt) ∙ ap (λ x. if x == 10 then suc (feeds (drop (k + 1) xs)) else feeds (drop (k + 1) xs)) e

-- the line that was looked for begins behind the line feed at k
pub line_found : (left line k : ℕ) (xs : List ℕ) → k < length xs → get_or xs k 0 ≡ 10 → 1 ≤ left → left - 1 ≡ 0 → left + feeds xs + 1 ≡ line + feeds (drop k xs) → feeds (take (k + 1) xs) + 1 ≡ line
line_found left line k xs lt e more last h =
    let parts : feeds (take (k + 1) xs) + feeds (drop (k + 1) xs) ≡ feeds xs = feeds_cut (k + 1) xs in
    let passed : feeds (drop k xs) ≡ suc (feeds (drop (k + 1) xs)) = feeds_passed k xs lt e in
    omega arith
