use Rattle.std.proofs.Common.{◌≡◌, ℕ, List, Err, refl}
use Rattle.pg_mach_ready.specs.declared.machine.Machine.{Machine}
use Rattle.pg_cmd_base.specs.Answering.{Comes}
use Rattle.pg_cmd_base.specs.Steps.{Came}
use Rattle.pg_cmd_base.proofs.StepLemmas.{same_three}
use Rattle.pg_cmd_plain.specs.AsmPlans.{assembled}
use Rattle.pg_cmd_plain.specs.Sources.{SourceDue}
use Rattle.pg_cmd_plain.proofs.ImageLemmas.{asm-stopped, asm-no_source, asm-came}
use Rattle.pg_cmd_plain.proofs.asm.prepare_asm.Goals as goal

pub returns-in-Err-clause-comes : goal.returns-in-Err-clause-comes
returns-in-Err-clause-comes g c =
    asm-stopped (λ (m : Machine). m.desc) assembled (g.F.Shelf.files c.args.shelf.now) c.args.words.now _ _ c.in-Err.stop c.in-Err.ensures.comes

pub returns-in-Err-load_source-clause-comes : goal.returns-in-Err-load_source-clause-comes
returns-in-Err-load_source-clause-comes g c =
    let told = g.F.Shelf.files c.args.shelf.now in
    let a = c.args.words.now in
    let d = c.in-Ok.machine.desc in
    asm-no_source (λ (image : List ℕ). image) assembled told a d _ _ _ c.in-Err-load_source.stop c.in-Ok.ensures.comes c.load_roomy.ensures.reads.later
    (same_three (λ files n grant. Comes (λ (image : List ℕ). image) (SourceDue files a.source d grant) (g.F.Shelf.reads c.load_roomy.new.shelf)
    (g.F.Shelf.reads c.load_source.new.shelf) (Err c.in-Err-load_source.stop)) _ _ a.grant a.grant _ _
    c.load_roomy.ensures.reads.same_files refl c.cells-size.ensures.cells c.in-Err-load_source.ensures.comes)

pub returns-in-Ok-listing-clause-comes : goal.returns-in-Ok-listing-clause-comes
returns-in-Ok-listing-clause-comes g c =
    let a = c.args.words.now in
    let d = c.in-Ok.machine.desc in
    asm-came (g.F.Shelf.files c.args.shelf.now) a d c.in-Ok-load_source.image c.in-Ok.ensures.comes
    (same_three (λ files n grant. SourceDue files a.source d grant (Came c.in-Ok-load_source.image)) _ _ a.grant a.grant _ _
    c.load_roomy.ensures.reads.same_files refl c.cells-size.ensures.cells c.in-Ok-load_source.ensures.comes)
