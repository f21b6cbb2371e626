-- A certificate of a description, and its verdict: what is kept of the two, and the steps that load them.
use Rattle.std.specs.Prelude.{ℕ, List, All, Option}
use Rattle.std.proofs.Props.{props}
use Rattle.pg_ast.specs.declared.tree.Desc.{Desc}
use Rattle.pg_cert.specs.declared.cert.Family.{Family}
use Rattle.pg_cert.specs.declared.report.Mark.{Mark}
use Rattle.pg_cert.specs.declared.report.Mark.TheVariants.{Refuted, Shown, Spent}
use Rattle.pg_cert.specs.declared.report.Report.{Report}
use Rattle.pg_cert.specs.declared.report.Verdict.{Verdict}
use Rattle.pg_cert.specs.declared.report.Verdict.TheVariants as verdict
use Rattle.pg_cert.specs.Verdicts.{verdict_of}
use Rattle.pg_edge.specs.Shelf.{Files}
use Rattle.pg_report.specs.Verdicts.{DoMarkWordsFit, verdict_text}
use Rattle.pg_cmd_base.specs.declared.status.Status.{Status}
use Rattle.pg_cmd_base.specs.declared.status.Status.TheVariants as status
use Rattle.pg_cmd_base.specs.declared.refusal.Refusal.{Refusal}
use Rattle.pg_cmd_certs.specs.Certificates.{CertDue}
use Rattle.pg_cmd_base.specs.Descriptions.{DescDue}
use Rattle.pg_cmd_base.specs.Steps.{Step, Then, Gives}

-- a description, and what is kept of a certificate of it
pub record Judged : Type 0 where
  pub desc : Desc
  pub report : Report

-- the verdict
abbrev pub verdict_on : Judged → Verdict
verdict_on j = verdict_of j.report.family j.report.marks

-- its text
abbrev pub verdict_told : Judged → List ℕ
verdict_told j = verdict_text j.desc j.report.family j.report.marks

-- the description of this file, and then the certificate of that, of this family
unfoldable pub JudgedDue : Family → (desc cert : List ℕ) → Option Files → Step Refusal Judged
JudgedDue family desc cert told =
    Then (DescDue told desc) (λ d. Then (CertDue d family told cert) (λ report. Gives (record { desc = d; report = report })))

-- the status of a verdict
abbrev pub verdict_status : Verdict → Status
verdict_status verdict.Accepted = status.Done
verdict_status (verdict.Refused instr) = status.Refused
verdict_status (verdict.Unsettled instr kind) = status.Unsettled

DoMarkWordsFit-prop : (w : ℕ) (m : Mark) → IsProp (DoMarkWordsFit w m)
DoMarkWordsFit-prop w Refuted = hlevel props
DoMarkWordsFit-prop w (Shown s t) = hlevel props
DoMarkWordsFit-prop w (Spent budget) = hlevel props

pub DoMarksFit-prop : (w : ℕ) (marks : List Mark) → IsProp (All (DoMarkWordsFit w) marks)
DoMarksFit-prop w marks = hlevel (props, DoMarkWordsFit-prop)
