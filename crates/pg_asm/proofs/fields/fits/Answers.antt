use Rattle.std.proofs.Common.{ap, sym, ◌∙◌}
use Rattle.std.proofs.lemmas.Bool.{le-leb}
use Rattle.pg_asm.proofs.FieldLemmas.{fits-wide, fits-narrow}
use Rattle.pg_asm.proofs.fields.fits.Goals as goal

pub returns-then-width-ge64 : goal.returns-then-width-ge64
returns-then-width-ge64 c = le-leb 64 c.args.width c.if-width-ge64.true ∙ fits-wide c.args.value c.args.width c.ranges.value.fits c.if-width-ge64.true

pub returns-else-width-ge64 : goal.returns-else-width-ge64
returns-else-width-ge64 c = fits-narrow c.args.value c.args.width
