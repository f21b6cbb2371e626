-- What a conflict teaches.
use Rattle.std.specs.Prelude.{◌≡◌, ℕ, ℤ, List, [], ◌∷◌, ◌++◌, map, Some, None}
use Rattle.pg_proof.specs.declared.step.Step.{Step}
use Rattle.pg_proof.specs.State.{variables_of}
use Rattle.pg_proof.specs.Refutation.{fault_of}
use Rattle.pg_watch.specs.State.{State}
use Rattle.pg_sat.specs.Jump.{IsJump}
use Rattle.pg_sat_search.specs.Held.{renumbered}

-- a step that is valid over the clauses that are held goes to the log under the numbers there; its clause, and where the trail
-- is cut for it
pub record IsLesson (question : List (List ℤ)) (state : State) (numbers : List ℕ) (before after : List Step) (clause : List ℤ) (jump : ℕ) : Type 0 where
  pub step : Step
  pub valid : fault_of (variables_of question) (map Some state.clauses) step ≡ None
  pub logged : after ≡ before ++ renumbered numbers step ∷ []
  pub clause_is : clause ≡ step.lits
  pub cut : IsJump state.trail step.lits jump
