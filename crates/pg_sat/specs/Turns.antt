-- The turns of a search.
use Rattle.std.specs.Prelude.{ℕ, ◌≡◌, ◌+◌, ◌-◌, ◌*◌, ◌<◌, ◌≤◌, ℤ, List, length}
use Rattle.pg_proof.specs.declared.step.Step.{Step}
use Rattle.pg_watch.specs.declared.fix.Fix.{Fix}
use Rattle.pg_watch.specs.Fixes.{IsEnd, is_quiet}
use Rattle.pg_watch.specs.State.{State}
use Rattle.pg_sat.specs.declared.turn.Turned.{Turned}
use Rattle.pg_sat.specs.declared.turn.Turned.TheVariants.{On, Satisfied, Refuted, Exhausted}
use Rattle.pg_sat.specs.Answers.{IsModel, IsRefuted, IsExhausted}
use Rattle.pg_sat.specs.Solving.{IsSolving}

-- what is known between turns: where propagation ended, after at most so many steps
pub record IsSearching (question : List (List ℤ)) (variables budget : ℕ) (state : State) (steps : List Step) (fix : Fix) : Type 0 where
  pub solving : IsSolving question variables state.clauses state.trail steps
  pub ends : IsEnd state.clauses state.trail.literals fix
  pub still : state.quiet ≡ is_quiet fix
  pub few : length steps ≤ budget

-- what may still be done: the steps count for more than the variables
unfoldable pub work_left : ℕ → ℕ → State → List Step → ℕ
work_left variables budget state steps = (budget - length steps) * (variables + 1) + (variables - length state.trail.literals)

-- the search goes on, with less work left than there was
pub record IsNearer (question : List (List ℤ)) (variables budget work : ℕ) (state : State) (steps : List Step) (fix : Fix) : Type 0 where
  pub searching : IsSearching question variables budget state steps fix
  pub less : work_left variables budget state steps < work

abbrev pub IsTurned : List (List ℤ) → ℕ → ℕ → ℕ → State → List Step → Turned → Type 0
IsTurned question variables budget work state steps (On fix) = IsNearer question variables budget work state steps fix
IsTurned question variables budget work state steps (Satisfied assignment) = IsModel question variables assignment
IsTurned question variables budget work state steps Refuted = IsRefuted question budget steps
IsTurned question variables budget work state steps Exhausted = IsExhausted question budget steps
