use Rattle.std.proofs.Common.{◌≡◌, ◌+◌, ◌++◌, length, drop}
use Rattle.pg_io_host.proofs.push.push.Given as goal

abbrev pub invariant-loop-byte : goal.invariant-loop-byte
invariant-loop-byte g l = record {
  so_far : l.line.items ++ drop l.byte-index l.bytes ≡ l.initial.line.items ++ l.bytes;
  len : length l.line.items ≡ length l.initial.line.items + l.byte-index;
}
