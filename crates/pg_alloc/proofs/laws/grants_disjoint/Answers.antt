use Rattle.std.proofs.Common.{arith}
use Rattle.pg_alloc.proofs.GrantLemmas.{alone}
use Rattle.pg_alloc.proofs.laws.grants_disjoint.Goals as goal

pub returns-clause-above : goal.returns-clause-above
returns-clause-above c = λ q grants i cell lie here. let above = (lie.each i (0, 0) here.there).above in omega (arith, above, here.from)

pub returns-clause-within : goal.returns-clause-within
returns-clause-within c = λ q grants i cell lie here. let within = (lie.each i (0, 0) here.there).within in omega (arith, within, here.before)

pub returns-clause-alone : goal.returns-clause-alone
returns-clause-alone c = alone
