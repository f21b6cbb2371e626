use Rattle.std.proofs.Common.{◌≤◌, length}
use Rattle.pg_cert_migrate.proofs.ReadLemmas.{IsReadSoFar}
use Rattle.pg_cert_migrate.proofs.logs.logs_of.Given as goal

abbrev pub decreases-loop-end : goal.decreases-loop-end
decreases-loop-end l = length l.left

abbrev pub invariant-loop-end : goal.invariant-loop-end
invariant-loop-end l = record {
  short : length l.left ≤ length l.fn.bytes;
  read : IsReadSoFar l.fn.shape l.fn.bytes l.logs l.left;
}
