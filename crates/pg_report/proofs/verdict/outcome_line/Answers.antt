use Rattle.std.proofs.Common.{length, ◌∙◌, ap, arith}
use Rattle.pg_report.specs.Verdicts.{unsettled_line, outcome_line}
use Rattle.pg_report.proofs.Verdicts.{name_read, refused_read, refused_within, unsettled_within}
use Rattle.pg_report.proofs.verdict.outcome_line.Goals as goal

pub name-requires : goal.name-requires
name-requires c =
    let within = refused_within c.args.report.now.family c.args.report.now.marks (length c.args.m.now.desc.instrs) c.in-Refused.instr c.requires.whole c.in-Refused.ensures in
    omega (arith, within)

pub name-requires-in-Unsettled : goal.name-requires-in-Unsettled
name-requires-in-Unsettled c =
    unsettled_within c.args.report.now.family c.args.report.now.marks (length c.args.m.now.desc.instrs) c.in-Unsettled.instr c.in-Unsettled.kind c.requires.whole c.in-Unsettled.ensures

pub returns-in-Refused : goal.returns-in-Refused
unfolding outcome_line
returns-in-Refused c =
    rw (← c.in-Refused.ensures) (refused_read c.args.m.now.desc _ c.in-Refused.instr _ _ c.name.ensures c.refused_line.ensures (grind arith))

pub returns-in-Unsettled : goal.returns-in-Unsettled
unfolding outcome_line
returns-in-Unsettled c =
    let kind = c.in-Unsettled.kind in
    rw (← c.in-Unsettled.ensures) (c.unsettled_line.ensures ∙ ap (λ name. unsettled_line name kind) (name_read c.args.m.now.desc c.in-Unsettled.instr _ c.name-in-Unsettled.ensures))
