use Rattle.std.proofs.Common.{◌≡◌, ◌+◌, ◌≤◌, take, subst, sym, Ok, arith}
use Rattle.std.proofs.lemmas.List.{take_all}
use Rattle.std.proofs.lemmas.List.Elements.{All-get_or}
use Rattle.std.proofs.lemmas.Result.{err_from_is_err_and}
use Rattle.pg_edge.specs.Sink.{Puts}
use Rattle.pg_edge.specs.declared.shelf.Failed.{Failed}
use Rattle.pg_edge.proofs.PutsLaws.{Puts-none, Puts-then, Puts-stopped}
use Rattle.pg_mon_control.specs.Guests.{virtual}
use Rattle.pg_run_still.specs.declared.view.View.{View}
use Rattle.pg_run_still.specs.Views.{end_of, view_text, views_text}
use Rattle.pg_run_still.proofs.ViewLemmas.{views_text-none, views_text-next, views_text-front}
use Rattle.pg_run_still.proofs.viewing.put_views.Goals as goal

pub loop-view-init : goal.loop-view-init
loop-view-init g c = rw (views_text-none c.args.shape.now.w _) (Puts-none _ _ _)

pub put_view-requires-clause-ends : goal.put_view-requires-clause-ends
put_view-requires-clause-ends g c =
    subst (λ v. end_of v ≤ c.args.guest.size) (sym c.view-item.is)
    (All-get_or (λ (v : View). end_of v ≤ c.args.guest.size) c.args.views.now c.loop-view.view-index c.view-item.result c.loop-view-test.true c.requires.views)

pub loop-view-preserved : goal.loop-view-preserved
loop-view-preserved g c =
    let w = c.args.shape.now.w in
    let views = c.args.views.now in
    let i = c.loop-view.view-index in
    let view = c.view-item.result in
    let s = virtual (g.H.Hardware.machinery c.args.hw.now).state.cells c.args.guest in
    subst (λ t. Puts {T = Unit {0}} {E = Failed} (g.S.Sink.written c.args.out.now) (g.S.Sink.written c.put_view.new.out) (g.S.Sink.faults c.args.out.now) (g.S.Sink.faults c.put_view.new.out) t (Ok tt))
    (views_text-next w views i view s c.loop-view-test.true c.view-item.is)
    (Puts-then _ _ _ _ _ _ (views_text w (take i views) s) (view_text w view s) _ (Ok tt) c.loop-view.invariant c.in_ok-put_view.ensures)

pub returns-in_err-put_view : goal.returns-in_err-put_view
returns-in_err-put_view g c =
    let w = c.args.shape.now.w in
    let views = c.args.views.now in
    let i = c.loop-view.view-index in
    let view = c.view-item.result in
    let s = virtual (g.H.Hardware.machinery c.args.hw.now).state.cells c.args.guest in
    let fault = err_from_is_err_and c.from_residual.result c.from_residual.ensures.1 in
    let rest = views_text-front w (i + 1) views s in
    let front = Puts-then _ _ _ _ _ _ (views_text w (take i views) s) (view_text w view s) _ _ c.loop-view.invariant c.in_err-put_view.ensures in
    let next = views_text-next w views i view s c.loop-view-test.true c.view-item.is in
    rw fault.1 (rw rest.1 (rw (← next) (Puts-stopped _ _ _ _ _ rest.0 _ _ front)))

pub returns : goal.returns
returns g c =
    let w = c.args.shape.now.w in
    let views = c.args.views.now in
    let s = virtual (g.H.Hardware.machinery c.args.hw.now).state.cells c.args.guest in
    let all : take c.loop-view.view-index views ≡ views = take_all c.loop-view.view-index views (omega (arith, c.loop-view-test.false)) in
    subst (λ vs. Puts {T = Unit {0}} {E = Failed} (g.S.Sink.written c.args.out.now) (g.S.Sink.written c.loop-view.out) (g.S.Sink.faults c.args.out.now) (g.S.Sink.faults c.loop-view.out) (views_text w vs s) (Ok tt)) all
    c.loop-view.invariant
