use Rattle.std.proofs.Common.{◌≡◌, ◌+◌, ◌*◌, ◌≤◌, ◌++◌, length, drop}
use Rattle.pg_report.specs.Verdicts.{answers_text}
use Rattle.pg_report.proofs.answers.push_answers.Given as goal

abbrev pub invariant-loop-place : goal.invariant-loop-place
invariant-loop-place l = record {
  so_far : l.line.items ++ answers_text (drop l.place l.kinds) (drop l.place l.marks) ≡ l.initial.line.items ++ answers_text l.kinds l.marks;
  len : length l.line.items ≤ length l.initial.line.items + 16 * l.place;
}
