-- A certificate of a description: what bytes come to as one, and the step that loads and reads it.
use Rattle.std.specs.Prelude.{◌≡◌, ℕ, List, Option, None, Some, Result, Ok, Err}
use Rattle.pg_ast.specs.declared.tree.Desc.{Desc}
use Rattle.pg_edge.specs.Shelf.{Files}
use Rattle.pg_cert.specs.Texts.{name_of}
use Rattle.pg_cert.specs.declared.cert.Family.{Family}
use Rattle.pg_cert.specs.declared.report.Report.{Report}
use Rattle.pg_verify.specs.declared.fault.StepCause.{StepCause}
use Rattle.pg_verify.specs.declared.fault.StepCause.TheVariants.{UnknownLit, UnknownHint, NotUnit, NoConflict}
use Rattle.pg_verify.specs.declared.fault.VerifyFault.{VerifyFault}
use Rattle.pg_verify.specs.declared.fault.VerifyFault.TheVariants as verify_fault
use Rattle.pg_verify.specs.Reader.{Progress}
use Rattle.pg_verify.specs.Feeding.{most_bytes, verified, IsReportOf}
use Rattle.pg_verify.specs.Verified.{Spells}
use Rattle.pg_report.specs.declared.line.RefusalLine.TheVariants.{Certificate}
use Rattle.pg_report.specs.declared.line.CertificateLine.{CertificateLine}
use Rattle.pg_report.specs.declared.line.CertificateLine.TheVariants as told_line
use Rattle.pg_cmd_base.specs.declared.refusal.Refusal.{Refusal}
use Rattle.pg_cmd_base.specs.Steps.{Step, As}
use Rattle.pg_cmd_base.specs.FileSteps.{FromFile}
use Rattle.pg_cmd_base.specs.Refusals.{of_file}

-- the causes for which a step is not valid, by number
abbrev pub cause_number : StepCause → ℕ
cause_number UnknownLit = 1
cause_number UnknownHint = 2
cause_number NotUnit = 3
cause_number NoConflict = 4

-- what is told of bytes that are no certificate of a description
abbrev pub told_of_verifying : Desc → VerifyFault → Option CertificateLine
told_of_verifying d verify_fault.Long = Some told_line.Long
told_of_verifying d (verify_fault.Token n) = Some (told_line.Token n)
told_of_verifying d (verify_fault.Grammar n) = Some (told_line.Grammar n)
told_of_verifying d verify_fault.Version = Some told_line.Version
told_of_verifying d (verify_fault.NoSuchInstr n) = Some (told_line.Instr n)
told_of_verifying d (verify_fault.BadStep n cause) = Some (told_line.Step n (cause_number cause))
told_of_verifying d (verify_fault.NotClosed n) = Some (told_line.Closed n)
told_of_verifying d (verify_fault.BadPair n) = Some (told_line.Pair n)
told_of_verifying d (verify_fault.BadSpent n) = Some (told_line.Spent n)
told_of_verifying d (verify_fault.Missing instr kind) = Some (told_line.Missing (name_of d instr) kind)
told_of_verifying d (verify_fault.Extra n) = Some (told_line.Extra n)
told_of_verifying d (verify_fault.BadDelete n) = Some (told_line.Delete n)
told_of_verifying d verify_fault.Memory = None

-- bytes that are the text of a valid certificate of a description and a family, of whose marks this is the report
pub record IsCertificate (d : Desc) (family : Family) (text : List ℕ) (report : Report) : Type 0 where
  pub progress : Progress
  pub taken : verified d family text ≡ Ok progress
  pub kept : IsReportOf progress report
  pub spelled : Spells d family text progress

-- bytes that are none: their fault is the one that is told
pub record IsNoCertificate (d : Desc) (family : Family) (text : List ℕ) (shown : CertificateLine) : Type 0 where
  pub fault : VerifyFault
  pub first : verified d family text ≡ Err fault
  pub told : told_of_verifying d fault ≡ Some shown

-- what bytes within the limit come to as a certificate of a description and a family
abbrev pub CertTextDue : Desc → Family → List ℕ → Result Report CertificateLine → Type 0
CertTextDue d family text (Ok report) = IsCertificate d family text report
CertTextDue d family text (Err line) = IsNoCertificate d family text line

-- the certificate is loaded, and read as one of this description and this family
unfoldable pub CertDue : Desc → Family → Option Files → List ℕ → Step Refusal Report
CertDue d family told name = As (of_file Certificate) (FromFile told name most_bytes told_line.Long (CertTextDue d family))
