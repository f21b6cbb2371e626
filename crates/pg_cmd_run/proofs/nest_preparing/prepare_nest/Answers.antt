use Rattle.std.proofs.Common.{◌∙◌, ◌*◌, ◌≤◌, ℕ, Err, ap, subst, arith}
use Rattle.pg_alloc.specs.Fit.{kept_cells}
use Rattle.pg_cmd_certs.specs.GuestViews.{loaded_guest}
use Rattle.pg_cmd_certs.specs.Guests.{GuestFiles, GuestDue}
use Rattle.pg_cmd_base.specs.Answering.{Comes}
use Rattle.pg_cmd_base.specs.Steps.{Came, Gives}
use Rattle.pg_cmd_base.proofs.StepLemmas.{comes-stopped}
use Rattle.pg_cmd_run.specs.Nest.{NestRun, NestDue, files_of, nest_run_of}
use Rattle.pg_cmd_run.specs.NestPlans.{nest_run}
use Rattle.pg_cmd_run.proofs.NestLemmas.{can-nest}
use Rattle.pg_cmd_run.proofs.nest_preparing.prepare_nest.Goals as goal

pub invariant_of-result : goal.invariant_of-result
invariant_of-result g c =
    let l = c.in-Ok.loaded in
    let least : 2 ≤ c.cells.result = omega (arith, c.cells.ensures.cells, c.cells.ensures.least) in
    let few : c.count.result ≤ 1000000 = omega (arith, c.count.ensures.count, c.count.ensures.most) in
    record {
      can_nest = can-nest l.judged.machine.desc l.image c.cells.result c.monitors-depth.result c.count.result least c.in-Ok.ensures.fills c.in-Ok.ensures.room few;
      filled = c.in-Ok.ensures.fills.whole;
      least = omega (arith, c.monitors-depth.ensures.monitors, c.monitors-depth.ensures.least);
      most = omega (arith, c.monitors-depth.ensures.monitors, c.monitors-depth.ensures.most);
    }

pub returns-in-Err-clause-comes : goal.returns-in-Err-clause-comes
unfolding NestDue
returns-in-Err-clause-comes g c =
    let n = c.args.words.now in
    let told = g.F.Shelf.files c.args.shelf.now in
    let before = g.F.Shelf.reads c.args.shelf.now in
    let after = g.F.Shelf.reads c.load_guest.new.shelf in
    let of : ℕ → ℕ → GuestFiles = λ grant depth. record { desc = n.desc; image = n.image; cert = n.cert; grant = grant; kept = kept_cells * depth } in
    let came = subst (λ k. Comes loaded_guest (GuestDue (of n.grant k) told) before after (Err c.in-Err.stop)) c.monitors-depth.ensures.monitors
    (subst (λ k. Comes loaded_guest (GuestDue (of k c.monitors-depth.result) told) before after (Err c.in-Err.stop)) c.cells.ensures.cells c.in-Err.ensures.comes) in
    comes-stopped loaded_guest nest_run (GuestDue (files_of n) told) (λ l. Gives (nest_run_of n l)) before after after c.in-Err.stop came (omega arith)

pub returns-in-Ok-clause-comes : goal.returns-in-Ok-clause-comes
unfolding NestDue
returns-in-Ok-clause-comes g c =
    let n = c.args.words.now in
    let l = loaded_guest c.in-Ok.loaded in
    let told = g.F.Shelf.files c.args.shelf.now in
    let of : ℕ → ℕ → GuestFiles = λ grant depth. record { desc = n.desc; image = n.image; cert = n.cert; grant = grant; kept = kept_cells * depth } in
    let came = subst (λ k. GuestDue (of n.grant k) told (Came l)) c.monitors-depth.ensures.monitors
    (subst (λ k. GuestDue (of k c.monitors-depth.result) told (Came l)) c.cells.ensures.cells c.in-Ok.ensures.comes) in
    let run : ℕ → ℕ → ℕ → NestRun = λ grant depth steps. record { desc = l.desc; image = l.image; grant = grant; depth = depth; steps = steps; report = l.report } in (
      l,
      came,
      ap (λ k. run k c.monitors-depth.result c.count.result) c.cells.ensures.cells ∙ ap (λ k. run n.grant k c.count.result) c.monitors-depth.ensures.monitors
          ∙ ap (run n.grant n.depth) c.count.ensures.count,
    )
