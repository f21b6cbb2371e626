-- *verify-exact*: a text is not refused exactly where it is the one spelling of a valid certificate.
use Rattle.std.specs.Prelude.{◌≡◌, ⊤, ℕ, ◌*◌, ◌<◌, ◌≤◌, List, length, map, Some, Ok, Err, slice_get}
use Rattle.std.specs.List.{All, Contains}
use Rattle.pg_ast.specs.declared.tree.Instr.{Instr}
use Rattle.pg_ast.specs.declared.tree.Desc.{Desc}
use Rattle.pg_lang_meaning.specs.States.{State, shape_of}
use Rattle.pg_lang_valid.specs.Valid.{IsValid}
use Rattle.pg_type.specs.declared.kind.Kind.{Kind}
use Rattle.pg_type.specs.Kinds.{Shows}
use Rattle.pg_ask.specs.Question.{question}
use Rattle.pg_cert.specs.declared.cert.Family.{Family}
use Rattle.pg_cert.specs.declared.cert.Cert.{Cert}
use Rattle.pg_cert.specs.declared.line.Heading.{Heading}
use Rattle.pg_cert.specs.Verdicts.{kinds_of, kind_count, mark_of}
use Rattle.pg_cert.specs.Lines.{IsLine}
use Rattle.pg_cert.specs.Texts.{instr_of, kind_of, cert_lines, cert_text, AreListed}
use Rattle.pg_cert.specs.Validity.{IsValidCert}
use Rattle.pg_cert_drawn.specs.Drawn.{state_of}
use Rattle.pg_verify.specs.declared.fault.VerifyFault.TheVariants as fault
use Rattle.pg_verify.specs.Reader.{Mark, Refuted, Shown, Spent, Progress}
use Rattle.pg_verify.specs.Feeding.{verified, kept, most_bytes}

-- a certificate of the description that is valid for its questions, each line of which is in range
pub record IsValidOf (heading : Heading) (d : Desc) (cert : Cert) : Type 0 where
  pub valid : IsValidCert (question d) heading d cert
  pub in_range : All (IsLine (shape_of d)) (cert_lines d heading cert)
  pub listed : All AreListed cert.findings

-- what stands behind a text that is not refused: a valid certificate of which it is the text, and whose marks are kept
pub record Spells (d : Desc) (family : Family) (bytes : List ℕ) (p : Progress) : Type 0 where
  pub heading : Heading
  pub cert : Cert
  pub of_family : cert.family ≡ family
  pub within : length bytes ≤ most_bytes
  pub text : bytes ≡ cert_text d heading cert
  pub valid : IsValidOf heading d cert
  pub marks : p.marks ≡ map (λ f. kept (mark_of f)) cert.findings

abbrev pub TakenTextsSpell : Type 0
TakenTextsSpell =
    (d : Desc) (family : Family) (bytes : List ℕ) (p : Progress) → IsValid d → verified d family bytes ≡ Ok p →
    Spells d family bytes p

-- and the text of a valid certificate, where it is within the limit, is not refused
pub record IsTaken (d : Desc) (heading : Heading) (cert : Cert) : Type 0 where
  pub progress : Progress
  pub taken : verified d cert.family (cert_text d heading cert) ≡ Ok progress
  pub family : progress.family ≡ cert.family
  pub marks : progress.marks ≡ map (λ f. kept (mark_of f)) cert.findings

abbrev pub ValidTextsAreTaken : Type 0
ValidTextsAreTaken =
    (d : Desc) (heading : Heading) (cert : Cert) → IsValid d → IsValidOf heading d cert →
    length (cert_text d heading cert) ≤ most_bytes → IsTaken d heading cert

-- ---- what the marks of a text that is not refused tell

abbrev pub Tells : Desc → Instr → Kind → Mark → Type 0
Tells d i kind Refuted = (s t : State) → Shows d i kind s t → ⊥
Tells d i kind (Shown s t) = Shows d i kind (state_of s) (state_of t)
Tells d i kind (Spent budget) = ⊤

-- there is one for each instruction and each kind: that no two states show the kind, or that these do
pub record AreTold (d : Desc) (family : Family) (marks : List Mark) : Type 0 where
  pub whole : length marks ≡ length d.instrs * kind_count family
  pub each : (n : ℕ) (mark : Mark) (i : Instr) → slice_get marks n ≡ Some mark →
      slice_get d.instrs (instr_of family n) ≡ Some i → Tells d i (kind_of family n) mark

abbrev pub TakenTextsTell : Type 0
TakenTextsTell =
    (d : Desc) (family : Family) (bytes : List ℕ) (p : Progress) → IsValid d → verified d family bytes ≡ Ok p →
    AreTold d family p.marks

-- ---- what is missing

-- a finding is asked for: there is an instruction of this number, and the kind is one of the family
pub record IsAsked (d : Desc) (family : Family) (instr : ℕ) (kind : Kind) : Type 0 where
  pub there : instr < length d.instrs
  pub among : Contains (kinds_of family) kind

-- a finding that is told to be missing is asked for
abbrev pub MissingFindingsAreAsked : Type 0
MissingFindingsAreAsked =
    (d : Desc) (family : Family) (bytes : List ℕ) (instr : ℕ) (kind : Kind) →
    verified d family bytes ≡ Err (fault.Missing instr kind) → IsAsked d family instr kind
