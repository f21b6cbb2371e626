use Rattle.std.proofs.Common.{◌≡◌, ◌+◌, ◌++◌, length, drop, map}
use Rattle.pg_io_host.specs.Telling.{shown_byte}
use Rattle.pg_io_host.proofs.push.push_shown.Given as goal

abbrev pub invariant-loop-byte : goal.invariant-loop-byte
invariant-loop-byte g l = record {
  so_far : l.line.items ++ map shown_byte (drop l.byte-index l.bytes) ≡ l.initial.line.items ++ map shown_byte l.bytes;
  len : length l.line.items ≡ length l.initial.line.items + l.byte-index;
}
