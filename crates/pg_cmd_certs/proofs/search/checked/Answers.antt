use Rattle.pg_ask.specs.Question.{question}
use Rattle.pg_cert.specs.Texts.{heading_of}
use Rattle.pg_cert.proofs.Fits.{cert_fits}
use Rattle.pg_cmd_certs.proofs.CheckedLemmas.{is_checked}
use Rattle.pg_cmd_certs.proofs.SavingLemmas.{written_fit, written_whole}
use Rattle.pg_cmd_certs.proofs.search.checked.Goals as goal

pub write-requires-clause-fit : goal.write-requires-clause-fit
write-requires-clause-fit g c =
    let d = c.args.machine.desc in
    let h = c.in_ok-cert.ensures in
    cert_fits (question d) (heading_of c.args.family) d c.in_ok-cert.cert h.listed h.valid

pub invariant_of-result : goal.invariant_of-result
invariant_of-result g c =
    let d = c.args.machine.desc in
    let bytes = c.in_ok-text.text.items in
    let report = c.in_ok-report.report in
    let checked = is_checked d c.args.family c.args.budget bytes c.in_ok-cert.cert report c.in_ok-cert.ensures c.in_ok-text.ensures c.in_ok-report.ensures.family c.in_ok-report.ensures.marks in
    record {
      whole = written_whole d c.args.family bytes report c.args.machine.valid checked.written;
      fit = written_fit d c.args.family bytes report c.args.machine.valid checked.written;
    }

pub returns-clause-checked : goal.returns-clause-checked
returns-clause-checked g c =
    let d = c.args.machine.desc in
    is_checked d c.args.family c.args.budget c.in_ok-text.text.items c.in_ok-cert.cert c.in_ok-report.report c.in_ok-cert.ensures
    c.in_ok-text.ensures c.in_ok-report.ensures.family c.in_ok-report.ensures.marks
