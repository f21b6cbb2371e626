use Rattle.std.proofs.Common.{◌≡◌, ℕ, List, Err, ap}
use Rattle.pg_cmd_base.specs.Images.{ImageDue}
use Rattle.pg_mach_ready.specs.declared.machine.Machine.{Machine}
use Rattle.pg_cmd_base.specs.Answering.{Comes}
use Rattle.pg_cmd_base.specs.Steps.{Came}
use Rattle.pg_cmd_base.proofs.StepLemmas.{same_three}
use Rattle.pg_cmd_plain.specs.AsmPlans.{written}
use Rattle.pg_cmd_plain.proofs.ImageLemmas.{disasm-stopped, disasm-no_image, disasm-came}
use Rattle.pg_cmd_plain.proofs.disasm.prepare_disasm.Goals as goal

pub returns-in-Err-clause-comes : goal.returns-in-Err-clause-comes
returns-in-Err-clause-comes g c =
    disasm-stopped (λ (m : Machine). m.desc) written (g.F.Shelf.files c.args.shelf.now) c.args.words.now _ _ c.in-Err.stop c.in-Err.ensures.comes

pub returns-in-Err-load_image-clause-comes : goal.returns-in-Err-load_image-clause-comes
returns-in-Err-load_image-clause-comes g c =
    let told = g.F.Shelf.files c.args.shelf.now in
    let a = c.args.words.now in
    let d = c.in-Ok.machine.desc in
    disasm-no_image (λ (image : List ℕ). image) written told a d _ _ _ c.in-Err-load_image.stop c.in-Ok.ensures.comes c.load_roomy.ensures.reads.later
    (same_three (λ files w grant. Comes (λ (image : List ℕ). image) (ImageDue files 0 a.image w grant) (g.F.Shelf.reads c.load_roomy.new.shelf)
    (g.F.Shelf.reads c.load_image.new.shelf) (Err c.in-Err-load_image.stop)) _ _ _ _ _ _
    c.load_roomy.ensures.reads.same_files (ap (λ s. s.w) c.shape.ensures.numbers) c.cells-size.ensures.cells c.in-Err-load_image.ensures.comes)

pub returns-in-Ok-disassemble-clause-comes : goal.returns-in-Ok-disassemble-clause-comes
returns-in-Ok-disassemble-clause-comes g c =
    let a = c.args.words.now in
    let d = c.in-Ok.machine.desc in
    disasm-came (g.F.Shelf.files c.args.shelf.now) a d c.in-Ok-load_image.image c.in-Ok.ensures.comes
    (same_three (λ files w grant. ImageDue files 0 a.image w grant (Came c.in-Ok-load_image.image)) _ _ _ _ _ _
    c.load_roomy.ensures.reads.same_files (ap (λ s. s.w) c.shape.ensures.numbers) c.cells-size.ensures.cells c.in-Ok-load_image.ensures.comes)
