-- *migrate-keeps*: a certificate made anew.
use Rattle.std.specs.Prelude.{◌≡◌, ℕ, ℤ, List, map, Some, slice_get, Result, Ok, Err}
use Rattle.pg_ast.specs.declared.tree.Instr.{Instr}
use Rattle.pg_ast.specs.declared.tree.Desc.{Desc}
use Rattle.pg_proof.specs.Trimmed.{IsTrimmed}
use Rattle.pg_ask.specs.Question.{question}
use Rattle.pg_cert.specs.declared.cert.Family.{Family}
use Rattle.pg_cert.specs.declared.cert.Finding.{Finding}
use Rattle.pg_cert.specs.declared.cert.Finding.TheVariants.{Refuted, Shown, Spent}
use Rattle.pg_cert.specs.declared.cert.Cert.{Cert}
use Rattle.pg_cert.specs.declared.line.Heading.{Heading}
use Rattle.pg_cert.specs.declared.report.Report.{Report}
use Rattle.pg_cert.specs.Verdicts.{mark_of}
use Rattle.pg_cert.specs.Texts.{instr_of, kind_of, heading_of, cert_text}
use Rattle.pg_verify.specs.declared.fault.VerifyFault.{VerifyFault}
use Rattle.pg_verify.specs.Verified.{IsValidOf}
use Rattle.pg_cert_migrate.specs.declared.migrating.Migrated.{Migrated}

-- what becomes of a finding: a log that refutes is trimmed; two states stay, and so does a log that spends its budget
abbrev pub Keeps : List (List ℤ) → Finding → Finding → Type 0
Keeps clauses (Refuted acts) (Refuted kept) = IsTrimmed clauses acts kept
Keeps clauses (Refuted acts) (Shown x y) = ⊥
Keeps clauses (Refuted acts) (Spent n more) = ⊥
Keeps clauses (Shown s t) (Refuted kept) = ⊥
Keeps clauses (Shown s t) (Shown x y) = (x ≡ s) × (y ≡ t)
Keeps clauses (Shown s t) (Spent n more) = ⊥
Keeps clauses (Spent k steps) (Refuted kept) = ⊥
Keeps clauses (Spent k steps) (Shown x y) = ⊥
Keeps clauses (Spent k steps) (Spent n more) = (n ≡ k) × (more ≡ steps)

-- bytes that are the text of a valid certificate, and a valid one of the same findings, under the heading that is written today
pub record IsMigrated (d : Desc) (family : Family) (bytes : List ℕ) (cert : Cert) : Type 0 where
  pub old : Cert
  pub heading : Heading
  pub text : bytes ≡ cert_text d heading old
  pub was : IsValidOf heading d old
  pub old_family : old.family ≡ family
  pub new_family : cert.family ≡ family
  pub now : IsValidOf (heading_of family) d cert
  pub keeps : (n : ℕ) (f g : Finding) (i : Instr) → slice_get old.findings n ≡ Some f → slice_get cert.findings n ≡ Some g →
      slice_get d.instrs (instr_of family n) ≡ Some i → Keeps (question d i (kind_of family n)) f g
  pub marks : map mark_of cert.findings ≡ map mark_of old.findings

-- the report of what is answered, or the refusal
abbrev pub report_told : Result Migrated VerifyFault → Result Report VerifyFault
report_told (Ok m) = Ok m.report
report_told (Err f) = Err f
