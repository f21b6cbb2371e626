-- Valid steps: reverse unit propagation with hints (RUP with hints, as LRAT; Cruz-Filipe and others, 2017).
use Rattle.std.specs.Prelude.{ℕ, Bool, true, false, ◌&&◌, nat_lt, nat_le, if◌then◌else◌, ℤ, nat_abs, List, [], ◌∷◌, Option, None, Some, Result, Ok, Err}
use Rattle.pg_proof.specs.declared.propagation.Reading.{Reading}
use Rattle.pg_proof.specs.declared.propagation.Reading.TheVariants.{Falsified, Unit, Neither}
use Rattle.pg_proof.specs.declared.step.ProofFault.{ProofFault}
use Rattle.pg_proof.specs.declared.step.ProofFault.TheVariants.{UnknownLit, UnknownHint, NotUnit, NoConflict, UnknownClause, Memory}
use Rattle.pg_proof.specs.declared.step.Step.{Step}
use Rattle.pg_proof.specs.Places.{has, negations}
use Rattle.pg_proof.specs.Reading.{reading}
use Rattle.pg_proof.specs.State.{clause_at}

-- literals of variables up to a greatest, strictly ascending by variable from above one on
abbrev pub are_ascending : ℕ → ℕ → List ℤ → Bool
are_ascending variables above [] = true
are_ascending variables above (z ∷ zs) =
    nat_lt above (nat_abs z) && (nat_le (nat_abs z) variables && are_ascending variables (nat_abs z) zs)

abbrev pub is_last : List ℕ → Bool
is_last [] = true
is_last (h ∷ hs) = false

-- a hint's clause is false at the last hint, and sets a literal at every other
abbrev pub at_reading : Reading → Bool → (ℤ → Option ProofFault) → Option ProofFault
at_reading Falsified true go = None
at_reading Falsified false go = Some NotUnit
at_reading (Unit z) last go = go z
at_reading Neither last go = Some NotUnit

abbrev pub at_clause : Option (List ℤ) → (List ℤ → Option ProofFault) → Option ProofFault
at_clause None go = Some UnknownHint
at_clause (Some c) go = go c

-- the hints in order, where some literals are set true: the first fault, or none where the last hint's clause is false
unfoldable pub walk : List (Option (List ℤ)) → List ℤ → List ℕ → Option ProofFault
walk held trail [] = Some NoConflict
walk held trail (h ∷ hs) =
    at_clause (clause_at held h) (λ c. at_reading (reading (has trail) c) (is_last hs) (λ z. walk held (z ∷ trail) hs))

-- the first fault of a step; it is valid where it has none. All its literals are set false first
unfoldable pub fault_of : ℕ → List (Option (List ℤ)) → Step → Option ProofFault
fault_of variables held step =
    (if are_ascending variables 0 step.lits then walk held (negations step.lits) step.hints else Some UnknownLit)

-- the fault that an answer tells of a step. Lack of memory comes to valid steps alone, and tells none
abbrev pub told : {A : Type 0} → Result A ProofFault → Option ProofFault
told (Ok a) = None
told (Err UnknownLit) = Some UnknownLit
told (Err UnknownHint) = Some UnknownHint
told (Err NotUnit) = Some NotUnit
told (Err NoConflict) = Some NoConflict
told (Err UnknownClause) = Some UnknownClause
told (Err Memory) = None
