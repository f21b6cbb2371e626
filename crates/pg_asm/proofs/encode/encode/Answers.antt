use Rattle.std.proofs.Common.{◌≡◌, true, length, sym, ap, ◌∙◌, arith}
use Rattle.pg_asm.specs.Lines.{operands_in}
use Rattle.pg_asm.specs.Sources.{same_letters}
use Rattle.pg_asm.proofs.OperandLemmas.{operands-count, letters-count}
use Rattle.pg_asm.proofs.encode.encode.Goals as goal

pub numbers_of-requires-clause-few : goal.numbers_of-requires-clause-few
numbers_of-requires-clause-few c =
    let same : same_letters c.as_slice.result.now (operands_in c.args.operands.now) ≡ true = cc in
    omega (
      arith,
      letters-count c.as_slice.result.now (operands_in c.args.operands.now) same,
      operands-count c.args.operands.now c.requires.says,
      ap length c.as_slice.ensures.value,
      c.fields_of-fields.ensures.few,
    )
