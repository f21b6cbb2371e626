use Rattle.std.proofs.Common.{◌≤◌, List, ℕ, subst, arith}
use Rattle.std.proofs.lemmas.List.{take_all}
use Rattle.std.proofs.lemmas.List.Elements.{All-more}
use Rattle.pg_run_still.specs.declared.view.View.{View}
use Rattle.pg_run_still.specs.Views.{AreViewsOf, end_of}
use Rattle.pg_prog_go.proofs.request.are_within.Goals as goal

pub loop-view-preserved : goal.loop-view-preserved
loop-view-preserved c =
    let cells = c.args.cells in
    let ends : end_of c.view-item.result ≤ cells = subst (λ (n : ℕ). n ≤ cells) c.end.ensures c.if-end-cells.false in
    record {
      within = All-more (λ (v : View). end_of v ≤ cells) c.args.views.now c.loop-view.view-index c.view-item.result c.loop-view-test.true c.loop-view.invariant.within
          (subst (λ (v : View). end_of v ≤ cells) c.view-item.is ends);
    }

pub returns : goal.returns
returns c =
    let all = take_all c.loop-view.view-index c.args.views.now (omega (arith, c.loop-view-test.false)) in
    λ yes. subst (λ (vs : List View). AreViewsOf c.args.cells vs) all c.loop-view.invariant.within
