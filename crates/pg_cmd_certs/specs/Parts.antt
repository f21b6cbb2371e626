-- A file that is handed over part by part to a verifier of certificates.
use Rattle.std.specs.Prelude.{◌≡◌, ℕ, ◌≤◌, List, length, Option, Some, IfSome, IsSomeAnd}
use Rattle.pg_ast.specs.declared.tree.Desc.{Desc}
use Rattle.pg_edge.specs.Shelf.{Files, IsPrefix}
use Rattle.pg_cert.specs.declared.cert.Family.{Family}
use Rattle.pg_report.specs.declared.line.RefusalLine.TheVariants.{Certificate}
use Rattle.pg_report.specs.declared.line.CertificateLine.{CertificateLine}
use Rattle.pg_verify.specs.declared.fault.VerifyFault.{VerifyFault}
use Rattle.pg_verify.specs.Reader.{Reader}
use Rattle.pg_verify.specs.Feeding.{begun, fed}
use Rattle.pg_cmd_base.specs.declared.refusal.Refusal.TheVariants.{Line}
use Rattle.pg_cmd_base.specs.declared.refusal.Stop.{Stop}
use Rattle.pg_cmd_base.specs.declared.refusal.Stop.TheVariants as stop
use Rattle.pg_cmd_certs.specs.Certificates.{told_of_verifying}

-- the most bytes of a part
abbrev pub most_part : ℕ
most_part = 65536

-- where the files are told, the one of this name has at most so many bytes
abbrev pub HoldsUpTo : Option Files → List ℕ → ℕ → Type 0
HoldsUpTo told name limit = IfSome told (λ files. IsSomeAnd (files name) (λ bytes. length bytes ≤ limit))

-- where the files are told, the one of this name begins with these bytes
abbrev pub HoldsFront : Option Files → List ℕ → List ℕ → Type 0
HoldsFront told name front = IfSome told (λ files. IsSomeAnd (files name) (λ bytes. IsPrefix front bytes))

-- a verifier of a family that was handed so many bytes of a file, from its first one on
pub record IsFed (d : Desc) (family : Family) (told : Option Files) (name : List ℕ) (count : ℕ) (reader : Reader) : Type 0 where
  pub bytes : List ℕ
  pub front : HoldsFront told name bytes
  pub counted : count ≡ length bytes
  pub is_fed : reader ≡ fed (begun d family) bytes

-- why a command goes no further whose certificate has this fault: it is told, or memory ran out
abbrev pub IsStopOf : Desc → VerifyFault → Stop → Type 0
IsStopOf d fault (stop.Refused why) = (line : CertificateLine) × (told_of_verifying d fault ≡ Some line) × (why ≡ Line (Certificate line))
IsStopOf d fault stop.ReadFault = ⊥
IsStopOf d fault stop.Memory = Unit {0}
