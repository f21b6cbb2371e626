-- The widths that operators take.
use Rattle.std.proofs.Common.{◌≡◌, ℕ, ◌==◌, Bool, true, false, IsSome, refl}
use Rattle.std.proofs.lemmas.Bool.{eqb-true}
use Rattle.pg_lang_valid.specs.Widths.{where_holds}

by_test : (b : Bool) (j k n : ℕ) → (b ≡ true → j ≡ k) → IsSome (where_holds b n) → j ≡ k
by_test true j k n e h = e refl
by_test false j k n e h = absurd (cc h)

-- both sides have one width, where one is wanted
pub both_wide : (j k n : ℕ) → IsSome (where_holds (j == k) n) → j ≡ k
both_wide j k n h = by_test (j == k) j k n (eqb-true j k) h
