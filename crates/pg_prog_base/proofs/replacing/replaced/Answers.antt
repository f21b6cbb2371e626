use Rattle.std.proofs.Common.{sym, ◌∙◌}
use Rattle.pg_ask.specs.Question.{question}
use Rattle.pg_cert.specs.Texts.{heading_of}
use Rattle.pg_cert.proofs.Fits.{cert_fits}
use Rattle.pg_prog_base.proofs.ReplaceLemmas.{is_replaced, marks_whole, marks_fit}
use Rattle.pg_prog_base.proofs.replacing.replaced.Goals as goal

pub write-requires-clause-whole : goal.write-requires-clause-whole
write-requires-clause-whole c =
    let m = c.args.machine.now in
    let h = is_replaced m.desc m.valid c.args.made c.requires.made.migrated.now c.args.place c.requires.there c.args.finding c.requires.right
    c.exchanged-cert.result c.exchanged-cert.ensures.family c.exchanged-cert.ensures.findings in
    h.valid.valid.whole

pub write-requires-clause-fit : goal.write-requires-clause-fit
write-requires-clause-fit c =
    let m = c.args.machine.now in
    let h = is_replaced m.desc m.valid c.args.made c.requires.made.migrated.now c.args.place c.requires.there c.args.finding c.requires.right
    c.exchanged-cert.result c.exchanged-cert.ensures.family c.exchanged-cert.ensures.findings in
    cert_fits (question m.desc) (heading_of c.args.made.family) m.desc c.exchanged-cert.result h.valid.listed h.valid.valid

pub returns-clause-replaced : goal.returns-clause-replaced
returns-clause-replaced c =
    let m = c.args.machine.now in
    is_replaced m.desc m.valid c.args.made c.requires.made.migrated.now c.args.place c.requires.there c.args.finding c.requires.right
    c.exchanged-cert.result c.exchanged-cert.ensures.family c.exchanged-cert.ensures.findings

pub returns-clause-whole : goal.returns-clause-whole
returns-clause-whole c =
    let m = c.args.machine.now in
    let h = is_replaced m.desc m.valid c.args.made c.requires.made.migrated.now c.args.place c.requires.there c.args.finding c.requires.right
    c.exchanged-cert.result c.exchanged-cert.ensures.family c.exchanged-cert.ensures.findings in
    marks_whole m.desc c.args.made c.exchanged-cert.result c.args.place c.args.finding h c.in_ok-report.report c.in_ok-report.ensures.family c.in_ok-report.ensures.marks

pub returns-clause-fit : goal.returns-clause-fit
returns-clause-fit c =
    let m = c.args.machine.now in
    let h = is_replaced m.desc m.valid c.args.made c.requires.made.migrated.now c.args.place c.requires.there c.args.finding c.requires.right
    c.exchanged-cert.result c.exchanged-cert.ensures.family c.exchanged-cert.ensures.findings in
    marks_fit m.desc c.args.made c.exchanged-cert.result c.args.place c.args.finding h c.in_ok-report.report c.in_ok-report.ensures.family c.in_ok-report.ensures.marks
