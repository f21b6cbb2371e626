use Rattle.pg_cert_migrate.proofs.KeepLemmas.{ready_so, anew_so}
use Rattle.pg_cert_migrate.proofs.migrating.made_anew.Goals as goal

pub findings-requires : goal.findings-requires
findings-requires c =
    let m = c.args.machine.now in
    ready_so m.desc m.valid c.args.family c.args.bytes.now c.args.report c.in_ok-logs.logs c.shape.result.now
    c.as_slice-marks.result.now c.requires c.shape.ensures.numbers c.in_ok-logs.ensures c.as_slice-marks.ensures

pub returns-clause-migrated : goal.returns-clause-migrated
returns-clause-migrated c =
    let m = c.args.machine.now in
    let h = anew_so m.desc m.valid c.args.family c.args.bytes.now c.args.report c.in_ok-logs.logs c.shape.result.now
    c.as_slice-marks.result.now c.requires c.shape.ensures.numbers c.in_ok-logs.ensures c.as_slice-marks.ensures
    c.in_ok-findings.findings c.in_ok-findings.ensures in
    h.migrated

pub returns-clause-marks : goal.returns-clause-marks
returns-clause-marks c =
    let m = c.args.machine.now in
    let h = anew_so m.desc m.valid c.args.family c.args.bytes.now c.args.report c.in_ok-logs.logs c.shape.result.now
    c.as_slice-marks.result.now c.requires c.shape.ensures.numbers c.in_ok-logs.ensures c.as_slice-marks.ensures
    c.in_ok-findings.findings c.in_ok-findings.ensures in
    h.marks

pub returns-clause-family : goal.returns-clause-family
returns-clause-family c =
    let m = c.args.machine.now in
    let h = anew_so m.desc m.valid c.args.family c.args.bytes.now c.args.report c.in_ok-logs.logs c.shape.result.now
    c.as_slice-marks.result.now c.requires c.shape.ensures.numbers c.in_ok-logs.ensures c.as_slice-marks.ensures
    c.in_ok-findings.findings c.in_ok-findings.ensures in
    h.of_family
