use Rattle.std.proofs.Common.{sym, ap, ◌∙◌}
use Rattle.std.specs.Prelude.{slice_get}
use Rattle.pg_lang_valid.specs.Twice.{instr_names}
use Rattle.pg_cert.proofs.TextLemmas.{findings_over, findings_more}
use Rattle.pg_cert.proofs.text.put_findings.Goals as goal

pub loop-number-preserved : goal.loop-number-preserved
loop-number-preserved c =
    let d = c.args.machine.now.desc in
    findings_more d c.args.family c.loop-number.number c.index-findings-number.result c.args.findings.now c.name-name.result.now c.kind_of-kind.result c.loop-number.into.items c.put_finding.new.into.items _
    c.loop-number-test.true c.index-findings-number.is (ap (slice_get (instr_names d.instrs)) (sym c.instr_of.ensures) ∙ c.name-name.ensures) c.kind_of-kind.ensures (rw c.shape.ensures.numbers at c.in_ok-put_finding.ensures) c.loop-number.invariant

pub returns : goal.returns
returns c = findings_over c.args.machine.now.desc c.args.family c.loop-number.number c.args.findings.now c.loop-number.into.items _ c.loop-number-test.false c.loop-number.invariant
