-- *ValidCertificate*: what makes a certificate right. The clauses of the questions are an argument, a function of instruction
-- and kind: how they are made is not said here.
use Rattle.std.specs.Prelude.{◌≡◌, ⊤, ℕ, ◌*◌, ◌≤◌, Bool, true, false, IsTrue, ℤ, List, length, map, Some, slice_get}
use Rattle.std.specs.List.{All}
use Rattle.pg_ast.specs.declared.tree.Instr.{Instr}
use Rattle.pg_ast.specs.declared.tree.Desc.{Desc}
use Rattle.pg_proof.specs.declared.step.Act.{Act}
use Rattle.pg_proof.specs.declared.step.Act.TheVariants as act
use Rattle.pg_proof.specs.Log.{IsClosedLog, IsSpent}
use Rattle.pg_type.specs.declared.kind.Kind.{Kind}
use Rattle.pg_type.specs.Kinds.{Shows}
use Rattle.pg_type.specs.Listed.{state_of}
use Rattle.pg_cert.specs.declared.cert.Finding.{Finding}
use Rattle.pg_cert.specs.declared.cert.Finding.TheVariants as finding
use Rattle.pg_cert.specs.declared.cert.Cert.{Cert}
use Rattle.pg_cert.specs.declared.line.Heading.{Heading}
use Rattle.pg_cert.specs.declared.line.Heading.TheVariants.{PlainOne, PlainTwo, HybridOne}
use Rattle.pg_cert.specs.Lines.{most_budget, are_removed}
use Rattle.pg_cert.specs.Verdicts.{kind_count}
use Rattle.pg_cert.specs.Texts.{family_of, instr_of, kind_of}

-- whether clauses may be taken away under a heading
abbrev pub may_remove : Heading → Bool
may_remove PlainOne = false
may_remove PlainTwo = true
may_remove HybridOne = true

-- numbers are taken away only where they may be, and ascend
abbrev pub IsActUnder : Heading → Act → Type 0
IsActUnder heading (act.Add step) = ⊤
IsActUnder heading (act.Remove numbers) = (may_remove heading ≡ true) × IsTrue (are_removed numbers)

-- a closed log of the question; states that show the kind; or a log that spends its budget
unfoldable pub IsValidFinding : List (List ℤ) → Heading → Desc → Instr → Kind → Finding → Type 0
IsValidFinding question heading d i kind (finding.Refuted acts) = IsClosedLog question acts × All (IsActUnder heading) acts
IsValidFinding question heading d i kind (finding.Shown s t) = Shows d i kind (state_of s) (state_of t)
IsValidFinding question heading d i kind (finding.Spent k steps) = (1 ≤ k) × (k ≤ most_budget) × IsSpent question k (map act.Add steps)

-- one finding for each instruction and each kind, in order, each of them valid
pub record IsValidCert (question : Instr → Kind → List (List ℤ)) (heading : Heading) (d : Desc) (cert : Cert) : Type 0 where
  pub family : family_of heading ≡ cert.family
  pub whole : length cert.findings ≡ length d.instrs * kind_count cert.family
  pub each : (n : ℕ) (f : Finding) (i : Instr) → slice_get cert.findings n ≡ Some f → slice_get d.instrs (instr_of cert.family n) ≡ Some i →
      IsValidFinding (question i (kind_of cert.family n)) heading d i (kind_of cert.family n) f
