use Rattle.std.proofs.Common.{◌≡◌, ◌+◌, ◌++◌, length, drop}
use Rattle.pg_image.proofs.lines.push.Given as goal

abbrev pub invariant-loop-byte : goal.invariant-loop-byte
invariant-loop-byte l = record {
  so_far : l.line.items ++ drop l.byte-index l.bytes ≡ l.initial.line.items ++ l.bytes;
  len : length l.line.items ≡ length l.initial.line.items + l.byte-index;
}
