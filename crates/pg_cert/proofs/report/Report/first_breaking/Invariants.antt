use Rattle.std.proofs.Common.{◌≡◌, ◌-◌}
use Rattle.pg_cert.specs.Verdicts.{marks_of, kind_count, breaks, first_where, first_breaking}
use Rattle.pg_cert.proofs.report.Report.first_breaking.Given as goal

abbrev pub invariant-loop-instr : goal.invariant-loop-instr
invariant-loop-instr l =
    first_where (λ i. breaks (marks_of (kind_count l.self.family) l.self.marks i)) l.instr (l.instr-end - l.instr) ≡ first_breaking l.self.family l.self.marks
