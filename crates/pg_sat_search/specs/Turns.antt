-- The turns of a search that forgets.
use Rattle.std.specs.Prelude.{ℕ, ◌≡◌, ◌<◌, ◌≤◌, ℤ, List, length}
use Rattle.pg_proof.specs.declared.step.Step.{Step}
use Rattle.pg_watch.specs.declared.fix.Fix.{Fix}
use Rattle.pg_watch.specs.Fixes.{IsEnd, is_quiet}
use Rattle.pg_watch.specs.State.{State}
use Rattle.pg_sat.specs.Answers.{IsModel, IsRefuted}
use Rattle.pg_sat.specs.Turns.{work_left}
use Rattle.pg_sat_search.specs.declared.turn.Turned.{Turned}
use Rattle.pg_sat_search.specs.declared.turn.Turned.TheVariants.{On, Satisfied, Closed, Exhausted}
use Rattle.pg_sat_search.specs.Held.{IsForgetting}
use Rattle.pg_sat_search.specs.Findings.{IsOpen}

-- what is known between turns: where propagation ended, after at most so many steps
pub record IsSearching (question : List (List ℤ)) (variables budget : ℕ) (state : State) (numbers : List ℕ) (steps : List Step) (fix : Fix) : Type 0 where
  pub forgetting : IsForgetting question variables state numbers steps
  pub ends : IsEnd state.clauses state.trail.literals fix
  pub still : state.quiet ≡ is_quiet fix
  pub few : length steps ≤ budget

-- the search goes on, with less work left than there was
pub record IsNearer (question : List (List ℤ)) (variables budget work : ℕ) (state : State) (numbers : List ℕ) (steps : List Step) (fix : Fix) : Type 0 where
  pub searching : IsSearching question variables budget state numbers steps fix
  pub less : work_left variables budget state steps < work

abbrev pub IsTurned : List (List ℤ) → ℕ → ℕ → ℕ → State → List ℕ → List Step → Turned → Type 0
IsTurned question variables budget work state numbers steps (On fix) = IsNearer question variables budget work state numbers steps fix
IsTurned question variables budget work state numbers steps (Satisfied assignment) = IsModel question variables assignment
IsTurned question variables budget work state numbers steps Closed = IsRefuted question budget steps
IsTurned question variables budget work state numbers steps Exhausted = IsOpen question budget steps
