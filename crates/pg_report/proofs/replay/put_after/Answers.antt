use Rattle.std.proofs.Common.{◌∙◌}
use Rattle.pg_edge.proofs.PutsLaws.{Puts-then, Puts-stopped}
use Rattle.pg_type.specs.Listed.{state_of}
use Rattle.pg_report.specs.Replays.{shown_state, step_line}
use Rattle.pg_report.proofs.replay.put_after.Goals as goal

pub returns-in-Err : goal.returns-in-Err
returns-in-Err g c =
    let line = rw (c.as_slice.ensures.value ∙ c.step_line.ensures) at c.in-Err.ensures.puts in
    Puts-stopped _ _ _ _ (step_line c.args.cause) (shown_state c.args.m.now.desc (state_of c.args.next.now)) _ _ line

pub returns : goal.returns
returns g c =
    let line = rw (c.as_slice.ensures.value ∙ c.step_line.ensures) at c.in-Ok.ensures.puts in
    Puts-then _ _ _ _ _ _ (step_line c.args.cause) (shown_state c.args.m.now.desc (state_of c.args.next.now)) _ _ line c.put_shown.ensures
