use Rattle.std.proofs.Common.{subst, Ok, Err}
use Rattle.pg_edge.specs.declared.shelf.Failed.{Failed}
use Rattle.pg_edge.specs.Sink.{Puts}
use Rattle.pg_edge.proofs.PutsLaws.{Puts-then, Puts-stopped}
use Rattle.pg_mon_control.specs.Guests.{virtual}
use Rattle.pg_run_still.specs.Views.{guest_text}
use Rattle.pg_run_still.proofs.telling.put_one.Goals as goal

pub returns-in-Ok : goal.returns-in-Ok
returns-in-Ok g c =
    let text = guest_text c.args.machine.now.desc.word c.args.views.now (virtual (g.H.Hardware.machinery c.args.hw.now).state.cells c.args.guest) in
    let line = subst (λ t. Puts {T = Unit {0}} {E = Failed} (g.S.Sink.written c.args.out.now) (g.S.Sink.written c.put.new.self) (g.S.Sink.faults c.args.out.now) (g.S.Sink.faults c.put.new.self) t (Ok c.in-Ok.field-0)) c.as_slice.ensures.value c.in-Ok.ensures.puts in
    Puts-then _ _ _ _ _ _ c.args.head.items text c.in-Ok.field-0 _ line c.put_guest.ensures

pub returns-in-Err : goal.returns-in-Err
returns-in-Err g c =
    let line = subst (λ t. Puts {T = Unit {0}} {E = Failed} (g.S.Sink.written c.args.out.now) (g.S.Sink.written c.put.new.self) (g.S.Sink.faults c.args.out.now) (g.S.Sink.faults c.put.new.self) t (Err c.in-Err.failed)) c.as_slice.ensures.value c.in-Err.ensures.puts in
    Puts-stopped _ _ _ _ c.args.head.items _ c.in-Err.failed c.in-Err.failed line
