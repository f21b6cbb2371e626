-- A quotient is zero where the dividend is below the divisor.
use Rattle.std.proofs.lemmas.Bool.{eqb-true, eq-eqb}
use Rattle.pg_replay.proofs.StateLemmas.{below_of_none, none_of_below}
use Rattle.pg_replay.proofs.state.fits.Goals as goal

pub returns : goal.returns
returns c = (λ h. below_of_none c.args.number c.args.bits (eqb-true _ _ h), λ h. eq-eqb _ _ (none_of_below c.args.number c.args.bits h))
