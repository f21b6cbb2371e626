use Rattle.std.proofs.Common.{◌+◌, ◌≤◌, subst, take, drop, get_or, length, Ok, Err, arith}
use Rattle.std.proofs.lemmas.List.{length-map}
use Rattle.pg_edge.specs.Sink.{Puts}
use Rattle.pg_edge.specs.declared.shelf.Failed.{Failed}
use Rattle.pg_edge.proofs.PutsLaws.{Puts-then, Puts-stopped}
use Rattle.pg_mon_control.specs.Guests.{virtual, virtuals}
use Rattle.pg_report.specs.Summaries.{summary_line, summaries}
use Rattle.pg_run_guests.proofs.TellLemmas.{no_guest, virtuals-of}
use Rattle.pg_run_guests.proofs.SummaryLemmas.{summaries-next, summaries-rest}
use Rattle.pg_run_guests.proofs.summing.put_all.Goals as goal

pub loop-k-preserved : goal.loop-k-preserved
loop-k-preserved g c =
    let w = c.args.machine.now.desc.word in
    let cells = (g.H.Hardware.machinery c.args.hw.now).state.cells in
    let states = virtuals cells c.args.guests.now in
    let x = get_or c.args.guests.now c.loop-k.k no_guest in
    record {
      put = subst (λ t. Puts {T = Unit {0}} {E = Failed} (g.S.Sink.written c.args.out.now) (g.S.Sink.written c.put_one.new.out) (g.S.Sink.faults c.args.out.now) (g.S.Sink.faults c.put_one.new.out) t (Ok tt))
          (summaries-next w states c.loop-k.k (virtual cells x) (virtuals-of cells c.args.guests.now c.loop-k.k c.loop-k-test.true))
          (Puts-then _ _ _ _ _ _ (summaries w 0 (take c.loop-k.k states)) (summary_line w c.loop-k.k (virtual cells x).cells x.psw) tt (Ok tt) c.loop-k.invariant.put c.in-Ok.ensures);
    }

-- a guest's line was not put whole, and those behind it were not begun
pub returns-in-Err : goal.returns-in-Err
returns-in-Err g c =
    let w = c.args.machine.now.desc.word in
    let cells = (g.H.Hardware.machinery c.args.hw.now).state.cells in
    let states = virtuals cells c.args.guests.now in
    let k = c.loop-k.k in
    let x = get_or c.args.guests.now k no_guest in
    let within : k + 1 ≤ length states = (let len = length-map c.args.guests.now (virtual cells) in omega (arith, len, c.loop-k-test.true)) in
    let front : Puts {T = Unit {0}} {E = Failed} (g.S.Sink.written c.args.out.now) (g.S.Sink.written c.put_one.new.out) (g.S.Sink.faults c.args.out.now) (g.S.Sink.faults c.put_one.new.out)
    (summaries w 0 (take (k + 1) states)) (Err c.in-Err.failed) =
    subst (λ t. Puts {T = Unit {0}} {E = Failed} (g.S.Sink.written c.args.out.now) (g.S.Sink.written c.put_one.new.out) (g.S.Sink.faults c.args.out.now) (g.S.Sink.faults c.put_one.new.out) t (Err c.in-Err.failed))
    (summaries-next w states k (virtual cells x) (virtuals-of cells c.args.guests.now k c.loop-k-test.true))
    (Puts-then _ _ _ _ _ _ (summaries w 0 (take k states)) (summary_line w k (virtual cells x).cells x.psw) tt (Err c.in-Err.failed) c.loop-k.invariant.put c.in-Err.ensures) in
    subst (λ t. Puts {T = Unit {0}} {E = Failed} (g.S.Sink.written c.args.out.now) (g.S.Sink.written c.put_one.new.out) (g.S.Sink.faults c.args.out.now) (g.S.Sink.faults c.put_one.new.out) t (Err c.in-Err.failed))
    (summaries-rest w states (k + 1) within)
    (Puts-stopped _ _ _ _ (summaries w 0 (take (k + 1) states)) (summaries w (k + 1) (drop (k + 1) states)) c.in-Err.failed c.in-Err.failed front)
