use Rattle.std.proofs.Common.{◌≡◌, ◌-◌, not}
use Rattle.pg_cert.specs.Verdicts.{marks_of, kind_count, is_settled, first_where, first_unsettled}
use Rattle.pg_cert.proofs.report.Report.first_unsettled.Given as goal

abbrev pub invariant-loop-instr : goal.invariant-loop-instr
invariant-loop-instr l =
    first_where (λ i. not (is_settled (marks_of (kind_count l.self.family) l.self.marks i))) l.instr (l.instr-end - l.instr) ≡ first_unsettled l.self.family l.self.marks
