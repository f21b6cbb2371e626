-- Tests that hold both, and patterns that clash, from some place on.
use Rattle.std.proofs.Common.{◌≡◌, ℕ, ◌≤◌, inl, inr, min, length, drop, Bool, true, false, ◌&&◌, List, [], ◌∷◌, refl, arith, ap, ◌∙◌}
use Rattle.std.proofs.lemmas.List.{drop_all}
use Rattle.std.proofs.lemmas.Bool.{cases_lt}
use Rattle.pg_lang_valid.specs.Overlaps.{clash}

pub and_both : (a b : Bool) → (a && b) ≡ true → (a ≡ true) × (b ≡ true)
and_both true b h = (refl, h)
and_both false b h = absurd (cc h)

-- an empty pattern clashes with none
pub clash-nil : (p : List ℕ) → clash p [] ≡ false
unfolding clash
clash-nil [] = refl
clash-nil (c ∷ cs) = refl

pub nil-clash : (p : List ℕ) → clash [] p ≡ false
unfolding clash
nil-clash p = refl

-- where one pattern ends there is no clash
pub clash-end : (p q : List ℕ) (i : ℕ) → min (length p) (length q) ≤ i → clash (drop i p) (drop i q) ≡ false
clash-end p q i over =
    elim (cases_lt i (length p)) [
      | inr h ↦ ap (λ xs. clash xs (drop i q)) (drop_all i p h) ∙ nil-clash (drop i q)
      | inl h ↦ ap (clash (drop i p)) (drop_all i q (omega arith)) ∙ clash-nil (drop i p)
    ]
