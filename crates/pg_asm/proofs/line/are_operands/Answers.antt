use Rattle.std.proofs.Common.{◌≡◌, true, sym, ◌∙◌}
use Rattle.std.specs.Prelude.{is_some}
use Rattle.pg_image.specs.Images.{parts_of}
use Rattle.pg_asm.specs.Said.{operand_said}
use Rattle.pg_asm.proofs.LineLemmas.{operands-more}
use Rattle.pg_asm.proofs.line.are_operands.Goals as goal

pub loop-part-preserved : goal.loop-part-preserved
loop-part-preserved c =
    let some : true ≡ is_some (operand_said c.in-Some.part.now) = cc in
    operands-more (parts_of c.loop-part.left.now) (parts_of c.in-Some.rest.now) c.in-Some.part.now _ c.in-Some.ensures.parts some c.loop-part.invariant
