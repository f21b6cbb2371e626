-- Findings whose lines are in range: the numbers of their logs are small enough.
use Rattle.std.specs.Prelude.{◌≡◌, ⊤, ℕ, ◌+◌, ◌≤◌, true, ℤ, List, length, map, Some, slice_get}
use Rattle.std.specs.List.{All}
use Rattle.pg_ast.specs.declared.tree.Instr.{Instr}
use Rattle.pg_ast.specs.declared.tree.Desc.{Desc}
use Rattle.pg_lang_meaning.specs.States.{shape_of}
use Rattle.pg_lang_valid.specs.Valid.{IsValid}
use Rattle.pg_proof.specs.declared.step.Act.{Act}
use Rattle.pg_proof.specs.declared.step.Act.TheVariants as act
use Rattle.pg_proof.specs.State.{variables_of}
use Rattle.pg_proof.specs.Trimmed.{step_count, IsTrimmed}
use Rattle.pg_type.specs.declared.kind.Kind.{Kind}
use Rattle.pg_cert.specs.declared.cert.Finding.{Finding}
use Rattle.pg_cert.specs.declared.cert.Finding.TheVariants as finding
use Rattle.pg_cert.specs.declared.cert.Cert.{Cert}
use Rattle.pg_cert.specs.declared.line.Heading.{Heading}
use Rattle.pg_cert.specs.Lines.{most_variable, most_number, IsLine}
use Rattle.pg_cert.specs.Texts.{instr_of, kind_of, cert_lines}
use Rattle.pg_cert.specs.Validity.{may_remove, IsActUnder, IsValidCert}

-- the variables of a question, and the numbers of its clauses and of the steps of a log, are such as lines can have
pub record IsNumbered (question : List (List ℤ)) (acts : List Act) : Type 0 where
  pub variables : variables_of question ≤ most_variable
  pub numbers : length question + step_count acts ≤ most_number

abbrev pub IsFindingNumbered : List (List ℤ) → Finding → Type 0
IsFindingNumbered question (finding.Refuted acts) = IsNumbered question acts
IsFindingNumbered question (finding.Shown s t) = ⊤
IsFindingNumbered question (finding.Spent k steps) = IsNumbered question (map act.Add steps)

-- the lines of a valid certificate are in range, where the numbers of its logs are such as lines can have
abbrev pub ValidCertificatesAreInRange : Type 0
ValidCertificatesAreInRange =
    (question : Instr → Kind → List (List ℤ)) (heading : Heading) (d : Desc) (cert : Cert) → IsValid d →
    IsValidCert question heading d cert →
    ((n : ℕ) (f : Finding) (i : Instr) → slice_get cert.findings n ≡ Some f →
    slice_get d.instrs (instr_of cert.family n) ≡ Some i → IsFindingNumbered (question i (kind_of cert.family n)) f) →
    All (IsLine (shape_of d)) (cert_lines d heading cert)

-- a trimmed log can stand under each heading that lets clauses be taken away
abbrev pub TrimmedLogsMayStand : Type 0
TrimmedLogsMayStand =
    (question : List (List ℤ)) (heading : Heading) (given log : List Act) → IsTrimmed question given log →
    IsNumbered question given → may_remove heading ≡ true → IsNumbered question log × All (IsActUnder heading) log
