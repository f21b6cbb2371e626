use Rattle.std.proofs.Common.{ℕ, Bool, ap, sym, ◌∙◌}
use Rattle.pg_cert.specs.Verdicts.{marks_of, kind_count, breaks, first_breaking}
use Rattle.pg_cert.proofs.VerdictLemmas.{found, missed, ended}
use Rattle.pg_cert.proofs.report.Report.first_breaking.Goals as goal

pub returns-then-breaks : goal.returns-then-breaks
returns-then-breaks c =
    let family = c.args.self.now.family in
    let marks = c.args.self.now.marks in
    let p : ℕ → Bool = λ i. breaks (marks_of (kind_count family) marks i) in
    record {
      first = found p c.loop-instr.instr c.count-instr-end.result (first_breaking family marks) c.loop-instr-test.true (ap breaks (sym c.marks_of.ensures) ∙ sym c.breaks.ensures ∙ c.if-breaks.true) c.loop-instr.invariant;
    }

pub loop-instr-preserved : goal.loop-instr-preserved
loop-instr-preserved c =
    let family = c.args.self.now.family in
    let marks = c.args.self.now.marks in
    let p : ℕ → Bool = λ i. breaks (marks_of (kind_count family) marks i) in
    missed p c.loop-instr.instr c.count-instr-end.result (first_breaking family marks) c.loop-instr-test.true (ap breaks (sym c.marks_of.ensures) ∙ sym c.breaks.ensures ∙ c.if-breaks.false) c.loop-instr.invariant

pub returns : goal.returns
returns c =
    let family = c.args.self.now.family in
    let marks = c.args.self.now.marks in
    let p : ℕ → Bool = λ i. breaks (marks_of (kind_count family) marks i) in
    record { first = ended p c.loop-instr.instr c.count-instr-end.result (first_breaking family marks) c.loop-instr-test.false c.loop-instr.invariant }
