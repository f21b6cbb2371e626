use Rattle.std.proofs.Common.{◌≡◌, ◌∙◌, ◌≤◌, ℕ, Err, ap, sym, subst, arith}
use Rattle.pg_alloc.specs.Fit.{kept_cells}
use Rattle.pg_cmd_certs.specs.GuestViews.{loaded_guest}
use Rattle.pg_cmd_certs.specs.Guests.{GuestFiles, GuestDue}
use Rattle.pg_cmd_base.specs.Answering.{Comes}
use Rattle.pg_cmd_base.specs.Steps.{Came, Gives}
use Rattle.pg_cmd_base.proofs.StepLemmas.{comes-stopped}
use Rattle.pg_cmd_save.specs.Plans.{save_run}
use Rattle.pg_cmd_save.specs.Save.{SaveRun, SaveDue, files_of, save_run_of}
use Rattle.pg_cmd_save.proofs.RunLemmas.{image-runs}
use Rattle.pg_cmd_save.proofs.save.preparing.prepare_save.Goals as goal

pub invariant_of-result : goal.invariant_of-result
invariant_of-result g c =
    let l = c.in-Ok.loaded in
    let least : 2 ≤ c.cells.result = omega (arith, c.cells.ensures.cells, c.cells.ensures.least) in
    let few : c.count.result ≤ 1000000 = omega (arith, c.count.ensures.count, c.count.ensures.most) in
    record {
      can_run = image-runs l.judged.machine l.image c.cells.result c.count.result least c.in-Ok.ensures.fills c.in-Ok.ensures.room few;
      filled = c.in-Ok.ensures.fills.whole;
      few = few;
    }

pub returns-in-Err-clause-comes : goal.returns-in-Err-clause-comes
unfolding SaveDue
returns-in-Err-clause-comes g c =
    let s = c.args.words.now in
    let told = g.F.Shelf.files c.args.shelf.now in
    let before = g.F.Shelf.reads c.args.shelf.now in
    let after = g.F.Shelf.reads c.load_guest.new.shelf in
    let of : ℕ → GuestFiles = λ grant. record { desc = s.desc; image = s.image; cert = s.cert; grant = grant; kept = kept_cells } in
    let came = subst (λ n. Comes loaded_guest (GuestDue (of n) told) before after (Err c.in-Err.stop)) c.cells.ensures.cells c.in-Err.ensures.comes in
    comes-stopped loaded_guest save_run (GuestDue (files_of s) told) (λ l. Gives (save_run_of s l)) before after after c.in-Err.stop came (omega arith)

pub returns-in-Ok-clause-comes : goal.returns-in-Ok-clause-comes
unfolding SaveDue
returns-in-Ok-clause-comes g c =
    let s = c.args.words.now in
    let l = loaded_guest c.in-Ok.loaded in
    let told = g.F.Shelf.files c.args.shelf.now in
    let of : ℕ → GuestFiles = λ grant. record { desc = s.desc; image = s.image; cert = s.cert; grant = grant; kept = kept_cells } in
    let came = subst (λ n. GuestDue (of n) told (Came l)) c.cells.ensures.cells c.in-Ok.ensures.comes in
    let run : ℕ → ℕ → SaveRun = λ grant steps. record { desc = l.desc; image = l.image; grant = grant; steps = steps; report = l.report } in
    (l, came, ap (λ n. run n c.count.result) c.cells.ensures.cells ∙ ap (run s.grant) c.count.ensures.count)
