use Rattle.std.proofs.Common.{◌≡◌, ◌∙◌, ◌≤◌, ℕ, List, length, Err, ap, subst, arith}
use Rattle.std.proofs.lemmas.List.Elements.{All-weaker}
use Rattle.pg_alloc.specs.Fit.{kept_cells}
use Rattle.pg_cmd_base.specs.Images.{Fills}
use Rattle.pg_cert.specs.declared.cert.Family.TheVariants.{Plain}
use Rattle.pg_cmd_base.specs.Answering.{Comes}
use Rattle.pg_cmd_base.specs.Steps.{Came, Gives}
use Rattle.pg_cmd_base.proofs.StepLemmas.{comes-stopped}
use Rattle.pg_cmd_run.specs.Loading.{GuestFiles, GuestsDue}
use Rattle.pg_cmd_run.specs.Run.{JudgedRun}
use Rattle.pg_prog_go.specs.Going.{GoDue, files_of, judged_go_of}
use Rattle.pg_prog_go.specs.Plans.{judged_go}
use Rattle.pg_cmd_run.specs.Views.{loaded}
use Rattle.pg_prog_go.proofs.PlanLemmas.{can-go}
use Rattle.pg_prog_go.proofs.preparing.prepare_go.Goals as goal

pub invariant_of-result : goal.invariant_of-result
invariant_of-result g c =
    let r = c.args.words.now in
    let l = c.in-Ok.loaded in
    let w = l.judged.machine.desc.word in
    let count : length l.images ≡ length r.images = c.in-Ok.ensures.count ∙ ap (λ xs. length xs) c.as_slice.ensures.names in
    let few : length l.images ≤ 8 = omega (arith, count, c.as_slice.ensures.most) in
    let least : 2 ≤ c.cells.result = omega (arith, c.cells.ensures.cells, c.cells.ensures.least) in
    let some : 1 ≤ c.steps.result = omega (arith, c.steps.ensures.steps, c.steps.ensures.least) in
    record {
      can_go = can-go l.judged.machine l.images c.cells.result c.steps.result r.steps.count least c.in-Ok.ensures.each few c.in-Ok.ensures.room some r.steps.few;
      filled = All-weaker (Fills w c.cells.result) (λ (image : List ℕ). length image ≡ c.cells.result) (λ image h. h.whole) l.images c.in-Ok.ensures.each;
    }

pub returns-in-Err-clause-comes : goal.returns-in-Err-clause-comes
unfolding GoDue
returns-in-Err-clause-comes g c =
    let r = c.args.words.now in
    let told = g.F.Shelf.files c.args.shelf.now in
    let before = g.F.Shelf.reads c.args.shelf.now in
    let after = g.F.Shelf.reads c.load_guests.new.shelf in
    let of : List (List ℕ) → ℕ → GuestFiles = λ images grant. record { desc = r.desc; images = images; cert = r.cert; grant = grant; kept = kept_cells } in
    let came = subst (λ n. Comes loaded (GuestsDue Plain (of r.images n) told) before after (Err c.in-Err.stop)) c.cells.ensures.cells
    (subst (λ xs. Comes loaded (GuestsDue Plain (of xs c.cells.result) told) before after (Err c.in-Err.stop)) c.as_slice.ensures.names c.in-Err.ensures.comes) in
    comes-stopped loaded judged_go (GuestsDue Plain (files_of r) told) (λ l. Gives (judged_go_of r l)) before after after c.in-Err.stop came (omega arith)

pub returns-in-Ok-clause-comes : goal.returns-in-Ok-clause-comes
unfolding GoDue
returns-in-Ok-clause-comes g c =
    let r = c.args.words.now in
    let l = loaded c.in-Ok.loaded in
    let told = g.F.Shelf.files c.args.shelf.now in
    let of : List (List ℕ) → ℕ → GuestFiles = λ images grant. record { desc = r.desc; images = images; cert = r.cert; grant = grant; kept = kept_cells } in
    let came = subst (λ n. GuestsDue Plain (of r.images n) told (Came l)) c.cells.ensures.cells
    (subst (λ xs. GuestsDue Plain (of xs c.cells.result) told (Came l)) c.as_slice.ensures.names c.in-Ok.ensures.comes) in
    let run : ℕ → ℕ → ℕ → JudgedRun = λ grant slice steps. record { desc = l.desc; images = l.images; slice = slice; steps = steps; grant = grant; report = l.report } in
    (l, came, ap (λ n. run n c.steps.result r.steps.count) c.cells.ensures.cells ∙ ap (λ n. run r.grant n r.steps.count) c.steps.ensures.steps)
