use Rattle.std.proofs.Common.{◌≡◌, ℕ, ◌<◌, length, slice_get, Some}
use Rattle.pg_cert.specs.Verdicts.{breaks, kind_count, marks_of}
use Rattle.pg_out_guarded.proofs.broken.broken_instrs.Given as goal

abbrev pub invariant-loop-instr : goal.invariant-loop-instr
invariant-loop-instr l = record {
  count : length l.list.items ≡ l.instr;
  each : (k : ℕ) → k < l.instr → slice_get l.list.items k ≡ Some (breaks (marks_of (kind_count l.report.family) l.report.marks k));
}
