-- Logs: acts one after another, from a question on.
use Rattle.std.specs.Prelude.{◌≡◌, ℕ, zero, suc, ⊤, true, false, if◌then◌else◌, IsTrue, ℤ, List, [], ◌∷◌, Option, None, Some, is_none, IsSomeAnd}
use Rattle.std.specs.Option.{option_and_then}
use Rattle.pg_proof.specs.declared.step.ProofFault.{ProofFault}
use Rattle.pg_proof.specs.declared.step.ProofFault.TheVariants.{UnknownClause}
use Rattle.pg_proof.specs.declared.step.Step.{Step}
use Rattle.pg_proof.specs.declared.step.Act.{Act}
use Rattle.pg_proof.specs.declared.step.Act.TheVariants.{Add, Remove}
use Rattle.pg_proof.specs.State.{State, begun, is_empty, with_clause}
use Rattle.pg_proof.specs.Refutation.{fault_of}
use Rattle.pg_proof.specs.Tight.{is_tight}
use Rattle.pg_proof.specs.Covered.{is_covered}
use Rattle.pg_proof.specs.Removal.{after_removal}

-- the state after an act, or none where it is refused
abbrev pub after_act : State → Act → Option State
after_act state (Add step) = (if is_none (fault_of state.variables state.held step) then Some (with_clause state step.lits) else None)
after_act state (Remove numbers) = after_removal state numbers

-- the first fault of an act, if it has one: that of its step, or that not all clauses it names are held
abbrev pub act_fault : State → Act → Option ProofFault
act_fault state (Add step) = fault_of state.variables state.held step
act_fault state (Remove numbers) = (if is_none (after_removal state numbers) then Some UnknownClause else None)

-- after acts in order, from a state on
abbrev pub after_acts_from : State → List Act → Option State
after_acts_from state [] = Some state
after_acts_from state (act ∷ acts) = option_and_then (λ after. after_acts_from after acts) (after_act state act)

abbrev pub after_acts : List (List ℤ) → List Act → Option State
after_acts question acts = after_acts_from (begun question) acts

-- every act is accepted, and a step has the empty clause
abbrev pub IsClosedLog : List (List ℤ) → List Act → Type 0
IsClosedLog question acts = IsSomeAnd (after_acts question acts) (λ after. IsTrue after.closed)

-- a step is worth its place: valid, not empty, tight, and none of the clauses held is part of it
pub record IsWorth (state : State) (step : Step) : Type 0 where
  pub valid : fault_of state.variables state.held step ≡ None
  pub some : is_empty step.lits ≡ false
  pub tight : is_tight state.variables state.held step ≡ true
  pub fresh : is_covered state.held step.lits ≡ false

-- so many acts, each of which adds a step that is worth its place
abbrev pub IsSpentFrom : State → ℕ → List Act → Type 0
IsSpentFrom state zero [] = ⊤
IsSpentFrom state zero (act ∷ acts) = ⊥
IsSpentFrom state (suc k) [] = ⊥
IsSpentFrom state (suc k) (Add step ∷ acts) = IsWorth state step × IsSpentFrom (with_clause state step.lits) k acts
IsSpentFrom state (suc k) (Remove numbers ∷ acts) = ⊥

abbrev pub IsSpent : List (List ℤ) → ℕ → List Act → Type 0
IsSpent question k acts = IsSpentFrom (begun question) k acts
