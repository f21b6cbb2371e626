use Rattle.std.proofs.Common.{◌++◌, ◌∙◌}
use Rattle.pg_type.specs.Listed.{state_of}
use Rattle.pg_report.specs.declared.replay.ReplayFault.TheVariants.{Failed}
use Rattle.pg_report.specs.Replays.{finding_line, replayed_text, stepped_text}
use Rattle.pg_report.proofs.Replays.{put_whole, put_failed, starves_then, starves_stopped}
use Rattle.pg_report.proofs.replay.put_finding.Goals as goal

pub returns-in-Err : goal.returns-in-Err
unfolding replayed_text
returns-in-Err g c =
    let d = c.args.m.now.desc in
    let head = finding_line c.args.name.now c.args.kind in
    let states = stepped_text d (state_of c.args.first.now) ++ stepped_text d (state_of c.args.second.now) in
    let line = rw (c.as_slice.ensures.value ∙ c.finding_line.ensures) at c.in-Err.ensures.puts in
    starves_stopped {T = Unit {0}} _ _ _ _ head states Failed (put_failed _ _ _ _ head _ line)

pub returns-in-Err-put_stepped : goal.returns-in-Err-put_stepped
unfolding replayed_text
returns-in-Err-put_stepped g c =
    let d = c.args.m.now.desc in
    let head = finding_line c.args.name.now c.args.kind in
    let one = stepped_text d (state_of c.args.first.now) in
    let two = stepped_text d (state_of c.args.second.now) in
    let line = rw (c.as_slice.ensures.value ∙ c.finding_line.ensures) at c.in-Ok.ensures.puts in
    starves_then _ _ _ _ _ _ head (one ++ two) (tt {0}) _ (put_whole _ _ _ _ head _ (tt {0}) line) (starves_stopped {T = Unit {0}} _ _ _ _ one two _ c.in-Err-put_stepped.ensures)

pub returns : goal.returns
unfolding replayed_text
returns g c =
    let d = c.args.m.now.desc in
    let head = finding_line c.args.name.now c.args.kind in
    let one = stepped_text d (state_of c.args.first.now) in
    let two = stepped_text d (state_of c.args.second.now) in
    let line = rw (c.as_slice.ensures.value ∙ c.finding_line.ensures) at c.in-Ok.ensures.puts in
    starves_then _ _ _ _ _ _ head (one ++ two) (tt {0}) _ (put_whole _ _ _ _ head _ (tt {0}) line)
    (starves_then _ _ _ _ _ _ one two (tt {0}) _ c.in-Ok-put_stepped.ensures c.put_stepped-2.ensures)
