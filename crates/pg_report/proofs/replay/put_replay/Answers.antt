use Rattle.std.proofs.Common.{◌<◌, ◌+◌, ◌++◌, length, ap, arith}
use Rattle.pg_report.specs.Replays.{replayed_at, replays_before}
use Rattle.pg_report.proofs.Replays.{nothing_starves, starves_then, starves_stopped, replays_none, replays_next, replays_front, finding_read}
use Rattle.pg_report.proofs.replay.put_replay.Goals as goal

pub loop-place-init : goal.loop-place-init
loop-place-init g c = rw (replays_none c.args.m.now.desc c.args.report.now.family c.args.report.now.marks) (nothing_starves _ _ _)

pub loop-place-preserved : goal.loop-place-preserved
loop-place-preserved g c =
    let d = c.args.m.now.desc in
    let family = c.args.report.now.family in
    let marks = c.args.report.now.marks in
    let n = c.loop-place.place in
    let same = c.as_slice-mark-items.ensures in
    let within : n < length marks = omega (arith, c.loop-place-test.true, ap length same) in
    let read = finding_read d family marks n _ _ _ c.mark-item.result same within c.kinds-kinds.ensures c.name-name.ensures c.mark-item.is in
    let put = rw read at c.in-Ok.ensures in
    rw (replays_next d family marks n) (starves_then _ _ _ _ _ _ (replays_before d family marks n) (replayed_at d family marks n) (tt {0}) _ c.loop-place.invariant put)

pub returns-in-Err : goal.returns-in-Err
returns-in-Err g c =
    let d = c.args.m.now.desc in
    let family = c.args.report.now.family in
    let marks = c.args.report.now.marks in
    let n = c.loop-place.place in
    let same = c.as_slice-mark-items.ensures in
    let within : n < length marks = omega (arith, c.loop-place-test.true, ap length same) in
    let read = finding_read d family marks n _ _ _ c.mark-item.result same within c.kinds-kinds.ensures c.name-name.ensures c.mark-item.is in
    let put = rw read at c.in-Err.ensures in
    let rest = replays_front d family marks (n + 1) (length marks) (omega (arith, within)) in
    let front = starves_then _ _ _ _ _ _ (replays_before d family marks n) (replayed_at d family marks n) (tt {0}) _ c.loop-place.invariant put in
    rw rest.1 (rw (replays_next d family marks n) (starves_stopped {T = Unit {0}} _ _ _ _ (replays_before d family marks n ++ replayed_at d family marks n) rest.0 _ front))
