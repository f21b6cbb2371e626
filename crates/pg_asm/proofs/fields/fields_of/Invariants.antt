use Rattle.std.proofs.Common.{◌≡◌, ◌++◌, ◌+◌, ◌≤◌, length}
use Rattle.pg_asm.specs.Words.{fields_behind, fields_of}
use Rattle.pg_asm.proofs.fields.fields_of.Given as goal

abbrev pub invariant-loop-byte : goal.invariant-loop-byte
invariant-loop-byte l = record {
  so_far : l.fields.items ++ fields_behind l.before l.left ≡ fields_of l.fn.pattern;
  room : length l.fields.items + length l.left ≤ 64;
}

abbrev pub decreases-loop-byte : goal.decreases-loop-byte
decreases-loop-byte l = length l.left
