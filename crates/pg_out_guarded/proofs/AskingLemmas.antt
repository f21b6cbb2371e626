-- What the verdict of a certificate means that was found.
use Rattle.std.proofs.Common.{◌≡◌, ℕ, ◌*◌, length, map, subst, ◌∙◌}
use Rattle.pg_ast.specs.declared.tree.Desc.{Desc}
use Rattle.pg_lang_valid.specs.Valid.{IsValid}
use Rattle.pg_cert.specs.declared.cert.Cert.{Cert}
use Rattle.pg_cert.specs.declared.cert.Family.{Family}
use Rattle.pg_cert.specs.declared.cert.Family.TheVariants.{Plain}
use Rattle.pg_cert.specs.declared.report.Report.{Report}
use Rattle.pg_cert.specs.declared.report.Verdict.TheVariants.{Accepted}
use Rattle.pg_cert.specs.Texts.{heading_of}
use Rattle.pg_cert.specs.Verdicts.{mark_of, kind_count, verdict_of}
use Rattle.pg_classify.specs.Classified.{IsClassified}
use Rattle.pg_type.specs.Accepting.{IsAccepted}
use Rattle.pg_cmd_certs.specs.Meaning.{VerdictMeans, IsAcceptedBy, Means}
use Rattle.pg_cmd_certs.proofs.VerdictMeanings.{certificate_means, certificate_whole}

module _ (d : Desc) (family : Family) (budget : ℕ) (cert : Cert) (report : Report) (v : IsValid d) (h : IsClassified d family budget cert)
    (kept : report.family ≡ cert.family) (marks : report.marks ≡ map mark_of cert.findings) where
  pub found-means : VerdictMeans d report
  found-means = certificate_means d v family (heading_of family) cert report h.valid h.of_family (kept ∙ h.of_family) marks

  pub found-whole : length report.marks ≡ length d.instrs * kind_count report.family
  found-whole = certificate_whole d v family (heading_of family) cert report h.valid h.of_family (kept ∙ h.of_family) marks

pub accepted-plain : (d : Desc) (report : Report) → report.family ≡ Plain → VerdictMeans d report → verdict_of report.family report.marks ≡ Accepted → IsAccepted d
accepted-plain d report kept means is = subst (λ (f : Family). IsAcceptedBy f d) kept (subst (Means d report) is means.means)
