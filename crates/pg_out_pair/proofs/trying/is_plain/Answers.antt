use Rattle.std.proofs.Common.{arith}
use Rattle.pg_word.proofs.SparseLemmas.{length-storage_of}
use Rattle.pg_out_pair.proofs.trying.is_plain.Goals as goal

pub returns : goal.returns
returns c = λ t. record {
  few = omega (arith, length-storage_of c.args.s.now.size c.args.s.now.cells, c.is_small.ensures c.if-not-is_small.false);
  behind = c.is_behind.ensures t;
}
