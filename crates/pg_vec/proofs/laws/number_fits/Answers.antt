use Rattle.pg_vec.proofs.EachLaws.{number-below}
use Rattle.pg_vec.proofs.laws.number_fits.Goals as goal

pub returns : goal.returns
returns c = number-below c.args.values.now c.args.gates.now
