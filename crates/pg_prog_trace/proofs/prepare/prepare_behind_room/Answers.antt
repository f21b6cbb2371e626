use Rattle.std.proofs.Common.{ℕ, List, Err, refl, ◌∙◌, ap, arith}
use Rattle.pg_cmd_base.specs.Images.{ImageDue}
use Rattle.pg_cmd_base.specs.Answering.{Comes}
use Rattle.pg_cmd_base.specs.Steps.{Came, Gives}
use Rattle.pg_cmd_base.proofs.StepLemmas.{comes-stopped, same_three}
use Rattle.pg_cmd_plain.specs.Bare.{BareRun}
use Rattle.pg_prog_trace.specs.Plans.{planned_run}
use Rattle.pg_prog_trace.proofs.prepare.prepare_behind_room.Goals as goal

-- the image stops it
pub returns-in-Err-clause-comes : goal.returns-in-Err-clause-comes
returns-in-Err-clause-comes g c =
    let told = g.F.Shelf.files c.args.shelf.now in
    let b = c.args.words.now in
    let d = c.args.machine.desc in
    let before = g.F.Shelf.reads c.args.shelf.now in
    let after = g.F.Shelf.reads c.load_image.new.shelf in
    comes-stopped (λ (image : List ℕ). image) planned_run (ImageDue told 0 b.image d.word b.grant)
    (λ image. Gives (record { desc = d; image = image; grant = b.grant; steps = b.steps })) before after after c.in-Err.stop
    (same_three (λ files w grant. Comes (λ (image : List ℕ). image) (ImageDue files 0 b.image w grant) before after (Err c.in-Err.stop)) _ _ _ _ _ _
    (refl {a = told}) (ap (λ s. s.w) c.shape.ensures.numbers) c.cells-grant.ensures.cells c.in-Err.ensures.comes)
    (omega arith)

-- nothing stops it
pub returns-in-Ok-clause-comes : goal.returns-in-Ok-clause-comes
returns-in-Ok-clause-comes g c =
    let told = g.F.Shelf.files c.args.shelf.now in
    let b = c.args.words.now in
    let d = c.args.machine.desc in
    let image = c.in-Ok.image in
    let run : ℕ → ℕ → BareRun = λ grant steps. record { desc = d; image = image; grant = grant; steps = steps } in (
      image,
      same_three (λ files w grant. ImageDue files 0 b.image w grant (Came image)) _ _ _ _ _ _ (refl {a = told}) (ap (λ s. s.w) c.shape.ensures.numbers) c.cells-grant.ensures.cells
          c.in-Ok.ensures.comes,
      ap (λ n. run n c.count.result) c.cells-grant.ensures.cells ∙ ap (run b.grant) c.count.ensures.count,
    )
