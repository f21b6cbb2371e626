-- The state that a step leaves, by how it ends.
use Rattle.std.proofs.Common.{◌≡◌, Result, Ok, Err, sym, ap, subst, ◌∙◌}
use Rattle.std.specs.Prelude.{IfOk, Option}
use Rattle.pg_word.specs.declared.cause.Cause.{Cause}
use Rattle.pg_word.specs.declared.sparse.Sparse.{Sparse}
use Rattle.pg_ast.specs.declared.tree.Desc.{Desc}
use Rattle.pg_lang_meaning.specs.States.{State, window}
use Rattle.pg_lang_meaning.specs.Steps.{Ending, ending, left_by, step}
use Rattle.pg_interp.specs.declared.effect.Outcome.{Outcome}
use Rattle.pg_interp.specs.Outcomes.{ending_as, IsOutcome}
use Rattle.pg_type.specs.Listed.{state_of}

step_by : (d : Desc) (s : State) (e : Ending) → e ≡ ending d (window s) s.psw → left_by d s e ≡ step d s
unfolding step
step_by d s e is = ap (λ x. left_by d s x) is

-- what is left by the ending that an outcome is, is what the step leaves
pub left_step : (E : Type 0) (d : Desc) (s w : Sparse) (o p : Outcome) (r : Result (Option Cause × Sparse) E) → w ≡ s → o ≡ p →
    IsOutcome d.word (window (state_of w)) (ending d (window (state_of w)) s.psw) o → IfOk r (λ x. state_of x.1 ≡ left_by d (state_of s) (ending_as (window (state_of s)) p)) →
    IfOk r (λ x. state_of x.1 ≡ step d (state_of s))
left_step E d s w o p (Ok x) same is run left =
    left ∙ step_by d (state_of s) (ending_as (window (state_of s)) p)
    (ap (ending_as (window (state_of s))) (sym is) ∙ subst (λ (v : Sparse). ending_as (window (state_of v)) o ≡ ending d (window (state_of v)) s.psw) same run.ends)
left_step E d s w o p (Err e) same is run left = tt
