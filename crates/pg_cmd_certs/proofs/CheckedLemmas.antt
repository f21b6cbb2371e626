-- A certificate that was found for a description.
use Rattle.std.proofs.Common.{◌≡◌, ℕ, List, map, ap, ◌∙◌}
use Rattle.pg_ast.specs.declared.tree.Desc.{Desc}
use Rattle.pg_cert.specs.declared.cert.Cert.{Cert}
use Rattle.pg_cert.specs.declared.cert.Family.{Family}
use Rattle.pg_cert.specs.declared.report.Report.{Report}
use Rattle.pg_cert.specs.Texts.{heading_of, cert_text}
use Rattle.pg_cert.specs.Verdicts.{mark_of}
use Rattle.pg_classify.specs.Classified.{IsClassified}
use Rattle.pg_cmd_certs.specs.Checked.{IsChecked}

pub is_checked : (d : Desc) (family : Family) (budget : ℕ) (bytes : List ℕ) (cert : Cert) (report : Report) → IsClassified d family budget cert →
    bytes ≡ cert_text d (heading_of cert.family) cert → report.family ≡ cert.family → report.marks ≡ map mark_of cert.findings →
    IsChecked d family budget bytes report
is_checked d family budget bytes cert report h text kept marks = record {
  written = record {
    cert = cert;
    of_family = h.of_family;
    valid = record { valid = h.valid; in_range = h.in_range; listed = h.listed };
    text = text ∙ ap (λ f. cert_text d (heading_of f) cert) h.of_family;
    kept_family = kept ∙ h.of_family;
    marks = marks;
  };
  searched = h.searched;
}
