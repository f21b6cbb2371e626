-- *import-keeps*: a certificate with one finding of another solver.
use Rattle.std.specs.Prelude.{◌≡◌, ℕ, ◌<◌, true, ℤ, List, length, Option, Some, slice_get, slice_set}
use Rattle.pg_ast.specs.declared.tree.Instr.{Instr}
use Rattle.pg_ast.specs.declared.tree.Desc.{Desc}
use Rattle.pg_type.specs.declared.kind.Kind.{Kind}
use Rattle.pg_ask.specs.Question.{question}
use Rattle.pg_cert.specs.declared.cert.Family.{Family}
use Rattle.pg_cert.specs.declared.cert.Finding.{Finding}
use Rattle.pg_cert.specs.declared.cert.Finding.TheVariants.{Refuted, Shown, Spent}
use Rattle.pg_cert.specs.declared.cert.Cert.{Cert}
use Rattle.pg_cert.specs.declared.line.Heading.{Heading}
use Rattle.pg_cert.specs.Texts.{AreListed, instr_of, kind_of, heading_of}
use Rattle.pg_cert.specs.Validity.{may_remove, IsValidFinding}
use Rattle.pg_cert.specs.InRange.{IsFindingNumbered}
use Rattle.pg_edge.specs.Shelf.{Files}
use Rattle.pg_cmd_base.specs.FileSteps.{HoldsWithin}
use Rattle.pg_verify.specs.Feeding.{most_bytes}
use Rattle.pg_verify.specs.Verified.{IsValidOf}
use Rattle.pg_cert_migrate.specs.Migrated.{IsMigrated}

-- the place of the finding of an instruction and a kind
pub record IsPlaceOf (cert : Cert) (instr : ℕ) (kind : Kind) (n : ℕ) : Type 0 where
  pub there : n < length cert.findings
  pub of_instr : instr_of cert.family n ≡ instr
  pub of_kind : kind_of cert.family n ≡ kind

-- a certificate that was made anew of some bytes
pub record IsOfText (d : Desc) (cert : Cert) : Type 0 where
  pub bytes : List ℕ
  pub migrated : IsMigrated d cert.family bytes cert

-- and these are the bytes that a file holds
pub record IsOfFile (told : Option Files) (name : List ℕ) (d : Desc) (cert : Cert) : Type 0 where
  pub made : IsOfText d cert
  pub held : HoldsWithin told name most_bytes made.bytes

-- a finding that leaves nothing open
abbrev pub IsSettled : Finding → Type 0
IsSettled (Refuted acts) = Unit {0}
IsSettled (Shown s t) = Unit {0}
IsSettled (Spent k steps) = ⊥

-- a finding that settles its question, is valid under each heading that lets clauses be taken away, and can be written
pub record IsRight (clauses : List (List ℤ)) (d : Desc) (i : Instr) (kind : Kind) (f : Finding) : Type 0 where
  pub settled : IsSettled f
  pub valid : (heading : Heading) → may_remove heading ≡ true → IsValidFinding clauses heading d i kind f
  pub listed : AreListed f
  pub numbered : IsFindingNumbered clauses f

-- of the question of a place
abbrev pub IsRightAt : Desc → Family → ℕ → Finding → Type 0
IsRightAt d family n f =
    (i : Instr) → slice_get d.instrs (instr_of family n) ≡ Some i → IsRight (question d i (kind_of family n)) d i (kind_of family n) f

-- the same family, the finding at its place, all others as they were; and it is valid
pub record IsReplaced (d : Desc) (made : Cert) (n : ℕ) (f : Finding) (cert : Cert) : Type 0 where
  pub of_family : cert.family ≡ made.family
  pub there : n < length made.findings
  pub findings : cert.findings ≡ slice_set made.findings n f
  pub valid : IsValidOf (heading_of made.family) d cert
