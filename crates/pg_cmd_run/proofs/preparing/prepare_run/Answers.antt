use Rattle.std.proofs.Common.{◌≡◌, ◌∙◌, ◌≤◌, ℕ, List, length, Err, ap, subst, arith}
use Rattle.std.proofs.lemmas.List.Elements.{All-weaker}
use Rattle.pg_alloc.specs.Fit.{kept_cells}
use Rattle.pg_cmd_base.specs.Images.{Fills}
use Rattle.pg_cmd_base.specs.Answering.{Comes}
use Rattle.pg_cmd_base.specs.Steps.{Came, Gives}
use Rattle.pg_cmd_base.proofs.StepLemmas.{comes-stopped}
use Rattle.pg_cmd_run.specs.Loading.{GuestFiles, GuestsDue}
use Rattle.pg_cmd_run.specs.Plans.{judged_run}
use Rattle.pg_cmd_run.specs.Run.{JudgedRun, RunDue, files_of, judged_run_of}
use Rattle.pg_cmd_run.specs.Views.{loaded}
use Rattle.pg_cmd_run.proofs.RunLemmas.{can-run}
use Rattle.pg_cmd_run.proofs.preparing.prepare_run.Goals as goal

pub invariant_of-result : goal.invariant_of-result
invariant_of-result g c =
    let r = c.args.words.now in
    let l = c.in-Ok.loaded in
    let w = l.judged.machine.desc.word in
    let count : length l.images ≡ length r.images = c.in-Ok.ensures.count ∙ ap (λ xs. length xs) c.as_slice.ensures.names in
    let few : length l.images ≤ 8 = omega (arith, count, c.as_slice.ensures.most) in
    let least : 2 ≤ c.cells.result = omega (arith, c.cells.ensures.cells, c.cells.ensures.least) in
    let some : 1 ≤ c.steps.result = omega (arith, c.steps.ensures.steps, c.steps.ensures.least) in
    let counted : c.count.result ≤ 1000000 = omega (arith, c.count.ensures.count, c.count.ensures.most) in
    record {
      can_run = can-run l.judged.machine l.images c.cells.result c.steps.result c.count.result least c.in-Ok.ensures.each few c.in-Ok.ensures.room some counted;
      filled = All-weaker (Fills w c.cells.result) (λ (image : List ℕ). length image ≡ c.cells.result) (λ image h. h.whole) l.images c.in-Ok.ensures.each;
    }

pub returns-in-Err-clause-comes : goal.returns-in-Err-clause-comes
unfolding RunDue
returns-in-Err-clause-comes g c =
    let r = c.args.words.now in
    let told = g.F.Shelf.files c.args.shelf.now in
    let before = g.F.Shelf.reads c.args.shelf.now in
    let after = g.F.Shelf.reads c.load_guests.new.shelf in
    let of : List (List ℕ) → ℕ → GuestFiles = λ images grant. record { desc = r.desc; images = images; cert = r.cert; grant = grant; kept = kept_cells } in
    let came = subst (λ n. Comes loaded (GuestsDue c.args.family (of r.images n) told) before after (Err c.in-Err.stop)) c.cells.ensures.cells
    (subst (λ xs. Comes loaded (GuestsDue c.args.family (of xs c.cells.result) told) before after (Err c.in-Err.stop)) c.as_slice.ensures.names c.in-Err.ensures.comes) in
    comes-stopped loaded judged_run (GuestsDue c.args.family (files_of r) told) (λ l. Gives (judged_run_of r l)) before after after c.in-Err.stop came (omega arith)

pub returns-in-Ok-clause-comes : goal.returns-in-Ok-clause-comes
unfolding RunDue
returns-in-Ok-clause-comes g c =
    let r = c.args.words.now in
    let l = loaded c.in-Ok.loaded in
    let told = g.F.Shelf.files c.args.shelf.now in
    let of : List (List ℕ) → ℕ → GuestFiles = λ images grant. record { desc = r.desc; images = images; cert = r.cert; grant = grant; kept = kept_cells } in
    let came = subst (λ n. GuestsDue c.args.family (of r.images n) told (Came l)) c.cells.ensures.cells
    (subst (λ xs. GuestsDue c.args.family (of xs c.cells.result) told (Came l)) c.as_slice.ensures.names c.in-Ok.ensures.comes) in
    let run : ℕ → ℕ → ℕ → JudgedRun = λ grant slice steps. record { desc = l.desc; images = l.images; slice = slice; steps = steps; grant = grant; report = l.report } in
    (l, came, ap (λ n. run n c.steps.result c.count.result) c.cells.ensures.cells ∙ ap (λ n. run r.grant n c.count.result) c.steps.ensures.steps ∙ ap (run r.grant r.slice) c.count.ensures.count)
