use Rattle.pg_asm.proofs.LineLemmas.{place-few}
use Rattle.pg_asm.proofs.line.place_of.Goals as goal

pub returns-in-Some-clause-few : goal.returns-in-Some-clause-few
returns-in-Some-clause-few c = place-few c.args.digits.now c.in-Some.n c.if-digits-gt-PLACE_DIGITS.false c.in-Some.ensures
