use Rattle.std.proofs.Common.{◌≡◌, ℕ, List, Err, sym, ap, subst, arith}
use Rattle.pg_mach_ready.specs.declared.machine.Machine.{Machine}
use Rattle.pg_cmd_plain.specs.Bare.{BareDue}
use Rattle.pg_cmd_base.specs.Images.{ImageDue}
use Rattle.pg_cmd_base.specs.Answering.{Comes}
use Rattle.pg_cmd_plain.specs.Plans.{bare_run}
use Rattle.pg_cmd_base.specs.Rooms.{of_room}
use Rattle.pg_cmd_base.specs.Steps.{Came, Refused}
use Rattle.pg_cmd_base.proofs.StepLemmas.{same_three}
use Rattle.pg_cmd_plain.proofs.BareLemmas.{bare-stopped, bare-no_room, bare-no_image, bare-runs}
use Rattle.pg_cmd_plain.proofs.bare.prepare_bare.Goals as goal

pub returns-in-Err-clause-comes : goal.returns-in-Err-clause-comes
returns-in-Err-clause-comes g c =
    bare-stopped (λ (m : Machine). m.desc) bare_run (g.F.Shelf.files c.args.shelf.now) c.args.words.now _ _ c.in-Err.stop c.in-Err.ensures.comes

pub returns-then-grant-most-clause-comes : goal.returns-then-grant-most-clause-comes
returns-then-grant-most-clause-comes g c =
    let told = g.F.Shelf.files c.args.shelf.now in
    let b = c.args.words.now in
    let d = c.in-Ok.machine.desc in
    let most : c.shape.result.now.q ≡ d.size = ap (λ s. s.q) c.shape.ensures.numbers in
    let refused = subst (λ n. BareDue b told (Refused (of_room (record { wanted = n; free = c.shape.result.now.q })))) (sym c.cells-grant.ensures.cells)
    (subst (λ q. BareDue b told (Refused (of_room (record { wanted = b.grant; free = q })))) (sym most) (bare-no_room told b d c.in-Ok.ensures.comes (omega (arith, most, c.if-grant-most.true, c.cells-grant.ensures.cells)))) in
    subst (λ s. Comes bare_run (BareDue b told) (g.F.Shelf.reads c.args.shelf.now) (g.F.Shelf.reads c.load_machine.new.shelf) (Err s)) (sym c.no_room.ensures) refused

pub returns-in-Err-load_image-clause-comes : goal.returns-in-Err-load_image-clause-comes
returns-in-Err-load_image-clause-comes g c =
    let told = g.F.Shelf.files c.args.shelf.now in
    let b = c.args.words.now in
    let d = c.in-Ok.machine.desc in
    let most : c.shape.result.now.q ≡ d.size = ap (λ s. s.q) c.shape.ensures.numbers in
    bare-no_image (λ (image : List ℕ). image) bare_run told b d _ _ _ c.in-Err-load_image.stop c.in-Ok.ensures.comes (omega (arith, most, c.if-grant-most.false, c.cells-grant.ensures.cells)) c.load_machine.ensures.reads.later
    (same_three (λ files w grant. Comes (λ (image : List ℕ). image) (ImageDue files 0 b.image w grant) (g.F.Shelf.reads c.load_machine.new.shelf)
    (g.F.Shelf.reads c.load_image.new.shelf) (Err c.in-Err-load_image.stop)) _ _ _ _ _ _
    c.load_machine.ensures.reads.same_files (ap (λ s. s.w) c.shape-2.ensures.numbers) c.cells-grant.ensures.cells c.in-Err-load_image.ensures.comes)

pub returns-in-Ok-load_image-clause-comes : goal.returns-in-Ok-load_image-clause-comes
returns-in-Ok-load_image-clause-comes g c =
    let told = g.F.Shelf.files c.args.shelf.now in
    let b = c.args.words.now in
    let d = c.in-Ok.machine.desc in
    let most : c.shape.result.now.q ≡ d.size = ap (λ s. s.q) c.shape.ensures.numbers in
    subst (λ m. BareDue b told (Came (record { desc = m; image = c.in-Ok-load_image.image; grant = c.cells-grant.result; steps = c.count-steps.result }))) (sym c.learned-machine.ensures.same)
    (subst (λ n. BareDue b told (Came (record { desc = d; image = c.in-Ok-load_image.image; grant = c.cells-grant.result; steps = n }))) (sym c.count-steps.ensures.count)
    (subst (λ n. BareDue b told (Came (record { desc = d; image = c.in-Ok-load_image.image; grant = n; steps = b.steps }))) (sym c.cells-grant.ensures.cells)
    (bare-runs told b d c.in-Ok-load_image.image c.in-Ok.ensures.comes (omega (arith, most, c.if-grant-most.false, c.cells-grant.ensures.cells))
    (same_three (λ files w grant. ImageDue files 0 b.image w grant (Came c.in-Ok-load_image.image)) _ _ _ _ _ _
    c.load_machine.ensures.reads.same_files (ap (λ s. s.w) c.shape-2.ensures.numbers) c.cells-grant.ensures.cells c.in-Ok-load_image.ensures.comes))))
