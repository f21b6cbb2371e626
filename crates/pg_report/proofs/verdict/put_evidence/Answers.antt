use Rattle.std.proofs.Common.{length}
use Rattle.pg_report.specs.Verdicts.{evidence_text}
use Rattle.pg_report.proofs.Verdicts.{marked, refused_within}
use Rattle.pg_report.proofs.verdict.put_evidence.Goals as goal

pub marks_of-requires : goal.marks_of-requires
marks_of-requires g c =
    let family = c.args.report.now.family in
    let marks = c.args.report.now.marks in
    marked family _ _ _ c.requires.whole (refused_within family marks (length c.args.m.now.desc.instrs) c.in-Refused.instr c.requires.whole c.in-Refused.ensures)

pub returns-in-Refused : goal.returns-in-Refused
unfolding evidence_text
returns-in-Refused g c =
    rw (← c.in-Refused.ensures) (rw (c.shape.ensures.numbers, c.marks_of.ensures.marks) at c.put_breach.ensures)
