use Rattle.std.proofs.Common.{◌++◌, [], Option, sym, subst, ap₂}
use Rattle.pg_word.specs.declared.cause.Cause.{Cause}
use Rattle.pg_lang_meaning.specs.States.{State, IsState, window}
use Rattle.pg_lang_meaning.specs.Steps.{ending, step}
use Rattle.pg_lang_valid.proofs.StepSound.{step-state}
use Rattle.pg_type.specs.Listed.{state_of}
use Rattle.pg_replay.specs.Storing.{cause_of}
use Rattle.pg_report.specs.declared.replay.ReplayFault.TheVariants.{Failed, Memory}
use Rattle.pg_report.specs.Replays.{shown_state, step_line, stepped_text}
use Rattle.pg_report.proofs.Replays.{put_whole, put_failed, starved, starves_then, starves_stopped}
use Rattle.pg_report.proofs.replay.put_stepped.Goals as goal

pub returns-in-Err : goal.returns-in-Err
unfolding stepped_text
returns-in-Err g c =
    let d = c.args.m.now.desc in
    let s = state_of c.args.s.now in
    let behind = step_line (cause_of (ending d (window s) s.psw)) ++ shown_state d (step d s) in
    starves_stopped {T = Unit {0}} _ _ _ _ (shown_state d s) behind Failed (put_failed _ _ _ _ (shown_state d s) _ c.in-Err.ensures)

pub returns-in-Err-after : goal.returns-in-Err-after
unfolding stepped_text
returns-in-Err-after g c =
    let d = c.args.m.now.desc in
    let s = state_of c.args.s.now in
    let behind = step_line (cause_of (ending d (window s) s.psw)) ++ shown_state d (step d s) in
    starves_then _ _ _ _ _ _ (shown_state d s) behind (tt {0}) _ (put_whole _ _ _ _ (shown_state d s) _ (tt {0}) c.in-Ok.ensures)
    (starves_stopped {T = Unit {0}} _ _ _ _ [] behind Memory (starved _ _))

pub put_after-requires : goal.put_after-requires
put_after-requires g c =
    let d = c.args.m.now.desc in
    subst (IsState d) (sym c.in-Ok-after.ensures.state) (step-state d (state_of c.args.s.now) c.args.m.now.valid c.requires)

pub returns-in-Ok-put_after : goal.returns-in-Ok-put_after
unfolding stepped_text
returns-in-Ok-put_after g c =
    let d = c.args.m.now.desc in
    let s = state_of c.args.s.now in
    let behind = step_line (cause_of (ending d (window s) s.psw)) ++ shown_state d (step d s) in
    let same = ap₂ (λ (why : Option Cause) (t : State). step_line why ++ shown_state d t) c.in-Ok-after.ensures.cause c.in-Ok-after.ensures.state in
    let put = rw same at c.in-Ok-put_after.ensures in
    starves_then _ _ _ _ _ _ (shown_state d s) behind (tt {0}) _ (put_whole _ _ _ _ (shown_state d s) _ (tt {0}) c.in-Ok.ensures) (put_whole _ _ _ _ behind _ (tt {0}) put)

pub returns : goal.returns
unfolding stepped_text
returns g c =
    let d = c.args.m.now.desc in
    let s = state_of c.args.s.now in
    let behind = step_line (cause_of (ending d (window s) s.psw)) ++ shown_state d (step d s) in
    let same = ap₂ (λ (why : Option Cause) (t : State). step_line why ++ shown_state d t) c.in-Ok-after.ensures.cause c.in-Ok-after.ensures.state in
    let put = rw same at c.in-Err-put_after.ensures in
    starves_then _ _ _ _ _ _ (shown_state d s) behind (tt {0}) _ (put_whole _ _ _ _ (shown_state d s) _ (tt {0}) c.in-Ok.ensures) (put_failed _ _ _ _ behind _ put)
