-- A description and a certificate of it come to one thing, for told files.
use Rattle.std.proofs.Common.{List, ℕ, Some}
use Rattle.pg_cert.specs.declared.cert.Family.{Family}
use Rattle.pg_edge.specs.Shelf.{Files}
use Rattle.pg_cmd_base.specs.Descriptions.{DescDue}
use Rattle.pg_cmd_base.proofs.OneInput.{one-desc}
use Rattle.pg_cmd_base.specs.Steps.{IsOne}
use Rattle.pg_cmd_base.proofs.OneSteps.{one-gives, one-then}
use Rattle.pg_cmd_certs.specs.Certificates.{CertDue}
use Rattle.pg_cmd_certs.specs.Judged.{JudgedDue}
use Rattle.pg_cmd_certs.proofs.JudgedLemmas as judged
use Rattle.pg_cmd_certs.proofs.OneCertificate.{one-certificate}

pub one-judged : (family : Family) (files : Files) (desc cert : List ℕ) → IsOne (JudgedDue family desc cert (Some files))
unfolding JudgedDue
one-judged family files desc cert =
    one-then (DescDue (Some files) desc) (judged.behind_desc family (Some files) cert) (one-desc files desc)
    (λ d. one-then (CertDue d family (Some files) cert) (judged.behind_cert d) (one-certificate d family files cert) (λ report. one-gives (record { desc = d; report = report })))
