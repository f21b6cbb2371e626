use Rattle.std.proofs.Common.{◌≡◌, ℕ, ◌≤◌, true, length, slice_get, Some}
use Rattle.pg_out_reasons.proofs.telling.wanted.Given as goal

abbrev pub invariant-loop-instr : goal.invariant-loop-instr
invariant-loop-instr l = record {
  within : l.instr ≤ length l.is_broken-items;
  count : length l.marks.items ≡ l.instr;
  broken : (k : ℕ) → slice_get l.marks.items k ≡ Some true → slice_get l.is_broken-items k ≡ Some true;
}
