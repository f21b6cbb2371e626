use Rattle.std.proofs.Common.{ℕ, Bool, not, ap, sym, ◌∙◌}
use Rattle.pg_cert.specs.Verdicts.{marks_of, kind_count, is_settled, first_unsettled}
use Rattle.pg_cert.proofs.VerdictLemmas.{found, missed, ended}
use Rattle.pg_cert.proofs.report.Report.first_unsettled.Goals as goal

pub returns-then-not-is_settled-clause-first : goal.returns-then-not-is_settled-clause-first
returns-then-not-is_settled-clause-first c =
    let family = c.args.self.now.family in
    let marks = c.args.self.now.marks in
    let p : ℕ → Bool = λ i. not (is_settled (marks_of (kind_count family) marks i)) in
    let settled = sym (ap is_settled (sym c.marks_of.ensures) ∙ sym c.is_settled.ensures) in
    found p c.loop-instr.instr c.count-instr-end.result (first_unsettled family marks) c.loop-instr-test.true (ap not (sym settled) ∙ ap not c.if-not-is_settled.true) c.loop-instr.invariant

pub loop-instr-preserved : goal.loop-instr-preserved
loop-instr-preserved c =
    let family = c.args.self.now.family in
    let marks = c.args.self.now.marks in
    let p : ℕ → Bool = λ i. not (is_settled (marks_of (kind_count family) marks i)) in
    let settled = sym (ap is_settled (sym c.marks_of.ensures) ∙ sym c.is_settled.ensures) in
    missed p c.loop-instr.instr c.count-instr-end.result (first_unsettled family marks) c.loop-instr-test.true (ap not (sym settled) ∙ ap not c.if-not-is_settled.false) c.loop-instr.invariant

pub returns-clause-first : goal.returns-clause-first
returns-clause-first c =
    let family = c.args.self.now.family in
    let marks = c.args.self.now.marks in
    let p : ℕ → Bool = λ i. not (is_settled (marks_of (kind_count family) marks i)) in
    ended p c.loop-instr.instr c.count-instr-end.result (first_unsettled family marks) c.loop-instr-test.false c.loop-instr.invariant
