use Rattle.std.proofs.Common.{◌≡◌, ◌+◌, length, reverse}
use Rattle.pg_cert_migrate.specs.Made.{AreMadeFrom}
use Rattle.pg_cert_migrate.proofs.MadeLemmas.{IsFront}
use Rattle.pg_cert_migrate.proofs.migrating.findings.Given as goal

abbrev pub invariant-loop-log : goal.invariant-loop-log
invariant-loop-log l = record {
  front : IsFront l.left l.fn.logs;
  count : length l.left + length l.made.items ≡ length l.fn.logs;
  made : AreMadeFrom l.machine.desc l.fn.family l.fn.marks l.fn.logs (length l.left) (reverse l.made.items);
}

abbrev pub decreases-loop-log : goal.decreases-loop-log
decreases-loop-log l = length l.left
