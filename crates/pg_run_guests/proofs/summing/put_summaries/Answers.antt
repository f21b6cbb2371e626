use Rattle.pg_edge.proofs.PutsLaws.{Puts-then, Puts-stopped}
use Rattle.pg_mon_control.specs.Guests.{virtuals}
use Rattle.pg_report.specs.Runs.{steps_line}
use Rattle.pg_report.specs.Summaries.{summaries, summary_text}
use Rattle.pg_run_guests.proofs.summing.put_summaries.Goals as goal

pub returns-in-Err : goal.returns-in-Err
unfolding summary_text
returns-in-Err g c =
    let lines = summaries c.args.machine.now.desc.word 0 (virtuals (g.H.Hardware.machinery c.args.hw.now).state.cells c.args.guests.now) in
    Puts-stopped _ _ _ _ (steps_line c.args.turns c.args.direct) lines c.in-Err.failed c.in-Err.failed c.in-Err.ensures

pub returns : goal.returns
unfolding summary_text
returns g c =
    let lines = summaries c.args.machine.now.desc.word 0 (virtuals (g.H.Hardware.machinery c.args.hw.now).state.cells c.args.guests.now) in
    Puts-then _ _ _ _ _ _ (steps_line c.args.turns c.args.direct) lines c.in-Ok.field-0 _ c.in-Ok.ensures c.put_all.ensures
