-- The same by flags: what the code computes where the literals set true are marked, and not listed.
use Rattle.std.specs.Prelude.{ℕ, ⊤, Bool, true, ◌&&◌, if◌then◌else◌, ℤ, neg_ℤ, List, [], ◌∷◌, slice_set, Option, Some}
use Rattle.pg_proof.specs.declared.propagation.Reading.{Reading}
use Rattle.pg_proof.specs.declared.propagation.Reading.TheVariants.{Falsified, Unit, Neither}
use Rattle.pg_proof.specs.declared.step.ProofFault.{ProofFault}
use Rattle.pg_proof.specs.declared.step.ProofFault.TheVariants.{NoConflict}
use Rattle.pg_proof.specs.Places.{place, is_marked, IsWithin}
use Rattle.pg_proof.specs.Reading.{reading}
use Rattle.pg_proof.specs.State.{clause_at}
use Rattle.pg_proof.specs.Tight.{at_set}
use Rattle.pg_proof.specs.Refutation.{is_last, at_reading, at_clause}

-- what a literal more makes of a reading
abbrev pub with_open : Reading → ℤ → Reading
with_open Falsified z = Unit z
with_open (Unit y) z = Neither
with_open Neither z = Neither

abbrev pub with_literal : (ℤ → Bool) → Reading → ℤ → Reading
with_literal is_true r z = (if is_true (neg_ℤ z) then r else (if is_true z then Neither else with_open r z))

-- a literal that a reading sets is one whose places are among so many
abbrev pub IsReadWithin : ℕ → Reading → Type 0
IsReadWithin places Falsified = ⊤
IsReadWithin places (Unit z) = IsWithin places z
IsReadWithin places Neither = ⊤

-- flags with those of some literals put up
abbrev pub marked : List Bool → List ℤ → List Bool
marked flags [] = flags
marked flags (z ∷ zs) = marked (slice_set flags (place z) true) zs

unfoldable pub walk_marked : List (Option (List ℤ)) → List Bool → List ℕ → Option ProofFault
walk_marked held flags [] = Some NoConflict
walk_marked held flags (h ∷ hs) =
    at_clause (clause_at held h)
    (λ c. at_reading (reading (is_marked flags) c) (is_last hs) (λ z. walk_marked held (slice_set flags (place z) true) hs))

-- flags with those of all literals of some clauses put up
abbrev pub marked_all : List Bool → List (List ℤ) → List Bool
marked_all flags [] = flags
marked_all flags (c ∷ cs) = marked_all (marked flags c) cs

-- each literal that one of the clauses sets has its negation among the flags of literals that stand somewhere
abbrev pub sets_marked : List Bool → List Bool → List (List ℤ) → Bool
sets_marked standing flags [] = true
sets_marked standing flags (c ∷ cs) =
    at_set (reading (is_marked flags) c) (λ z. is_marked standing (neg_ℤ z) && sets_marked standing (slice_set flags (place z) true) cs)
