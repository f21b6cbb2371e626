use Rattle.std.proofs.Common.{take, Ok}
use Rattle.pg_edge.specs.Sink.{Puts}
use Rattle.pg_edge.specs.declared.shelf.Failed.{Failed}
use Rattle.pg_mon_control.specs.Guests.{virtual}
use Rattle.pg_run_still.specs.Views.{views_text}
use Rattle.pg_run_still.proofs.viewing.put_views.Given as goal

-- what the views before this one show was put
abbrev pub invariant-loop-view : goal.invariant-loop-view
invariant-loop-view g l =
    Puts {T = Unit {0}} {E = Failed} (g.S.Sink.written l.initial.out) (g.S.Sink.written l.out) (g.S.Sink.faults l.initial.out) (g.S.Sink.faults l.out)
    (views_text l.shape.w (take l.view-index l.views) (virtual (g.H.Hardware.machinery l.hw).state.cells l.guest)) (Ok tt)
