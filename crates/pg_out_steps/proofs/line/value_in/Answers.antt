use Rattle.pg_asm.proofs.FieldLemmas.{value-wide}
use Rattle.pg_out_steps.proofs.line.value_in.Goals as goal

pub returns-then-field-ge64 : goal.returns-then-field-ge64
returns-then-field-ge64 c = value-wide c.args.word c.args.field.now c.ranges.word.fits c.if-field-ge64.true
