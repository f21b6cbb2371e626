use Rattle.std.proofs.Common.{refl, ◌∙◌}
use Rattle.pg_cert.specs.Texts.{cert_lines, findings_lines, heading_of}
use Rattle.pg_cert.proofs.TextLemmas.{cert_put}
use Rattle.pg_cert.proofs.text.write.Goals as goal

pub returns : goal.returns
unfolding cert_lines
returns c =
    let d = c.args.machine.now.desc in
    let cert = c.args.cert.now in
    cert_put d cert.family (heading_of cert.family) (findings_lines d cert.family 0 cert.findings) c.put_end.new.into.items
    (c.in_ok-put_end.ensures ∙ rw (c.in_ok-put_findings.ensures, c.in_ok-put_first.ensures, c.new-text.ensures.items, c.heading_of.ensures, c.as_slice.ensures) refl)
