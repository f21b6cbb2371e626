use Rattle.std.proofs.lemmas.Nat.{and_mask}
use Rattle.pg_word.proofs.bits.low.Goals as goal

pub returns-clause-value : goal.returns-clause-value
returns-clause-value c = rw c.ones.ensures (and_mask c.args.x c.args.n)
