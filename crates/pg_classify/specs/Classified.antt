-- What is found of the questions of a machine, each within a budget.
use Rattle.std.specs.Prelude.{◌≡◌, ⊤, ℕ, true, ℤ, List, map, Some, slice_get}
use Rattle.std.specs.List.{All}
use Rattle.pg_ast.specs.declared.tree.Instr.{Instr}
use Rattle.pg_ast.specs.declared.tree.Desc.{Desc}
use Rattle.pg_lang_meaning.specs.States.{shape_of}
use Rattle.pg_type.specs.declared.kind.Kind.{Kind}
use Rattle.pg_ask.specs.Question.{question}
use Rattle.pg_proof.specs.declared.step.Step.{Step}
use Rattle.pg_proof.specs.declared.step.Act.{Act}
use Rattle.pg_proof.specs.declared.step.Act.TheVariants.{Add}
use Rattle.pg_proof.specs.Trimmed.{IsTrimmed}
use Rattle.pg_sat.specs.Answers.{IsRefuted}
use Rattle.pg_sat.specs.Solving.{AreNew}
use Rattle.pg_cert.specs.declared.cert.Family.{Family}
use Rattle.pg_cert.specs.declared.cert.Finding.{Finding}
use Rattle.pg_cert.specs.declared.cert.Finding.TheVariants.{Refuted, Shown, Spent}
use Rattle.pg_cert.specs.declared.cert.Cert.{Cert}
use Rattle.pg_cert.specs.declared.line.Heading.{Heading}
use Rattle.pg_cert.specs.Lines.{IsLine}
use Rattle.pg_cert.specs.Texts.{AreListed, instr_of, kind_of, heading_of, cert_lines}
use Rattle.pg_cert.specs.Validity.{may_remove, IsValidFinding, IsValidCert}
use Rattle.pg_cert.specs.InRange.{IsFindingNumbered}

-- a log that refutes within a budget: the trimmed form of steps that end with the empty clause, behind at most as many others as
-- the budget
pub record IsRefutedWithin (clauses : List (List ℤ)) (budget : ℕ) (acts : List Act) : Type 0 where
  pub steps : List Step
  pub refuted : IsRefuted clauses budget steps
  pub trimmed : IsTrimmed clauses (map Add steps) acts

-- what a search within a budget leaves: a log that refutes does so within it; one that is left open spends it, and each of its
-- steps is new: unit propagation over the clauses before it does not see it
abbrev pub IsSearched : List (List ℤ) → ℕ → Finding → Type 0
IsSearched clauses budget (Refuted acts) = IsRefutedWithin clauses budget acts
IsSearched clauses budget (Shown s t) = ⊤
IsSearched clauses budget (Spent k steps) = (k ≡ budget) × AreNew clauses steps

-- what is found, of clauses that ask for two states which show a kind of an instruction: a right finding under each heading
-- that lets clauses be taken away, which can be written
pub record IsFound (clauses : List (List ℤ)) (budget : ℕ) (d : Desc) (i : Instr) (kind : Kind) (f : Finding) : Type 0 where
  pub valid : (heading : Heading) → may_remove heading ≡ true → IsValidFinding clauses heading d i kind f
  pub listed : AreListed f
  pub numbered : IsFindingNumbered clauses f
  pub searched : IsSearched clauses budget f

-- the same of the question of an instruction and a kind, by the instruction's number
abbrev pub IsFoundAt : Desc → ℕ → Kind → ℕ → Finding → Type 0
IsFoundAt d instr kind budget f = (i : Instr) → slice_get d.instrs instr ≡ Some i → IsFound (question d i kind) budget d i kind f

-- the first findings of a family, in order
abbrev pub AreFound : Desc → Family → ℕ → List Finding → Type 0
AreFound d family budget findings =
    (n : ℕ) (f : Finding) → slice_get findings n ≡ Some f → IsFoundAt d (instr_of family n) (kind_of family n) budget f

-- findings of a machine that were searched for within a budget
abbrev pub AreSearched : Desc → Family → ℕ → List Finding → Type 0
AreSearched d family budget findings =
    (n : ℕ) (f : Finding) (i : Instr) → slice_get findings n ≡ Some f → slice_get d.instrs (instr_of family n) ≡ Some i →
    IsSearched (question d i (kind_of family n)) budget f

-- *classify-valid*: a valid certificate, each line of which is in range, and whose states are listed in the one way. Its logs
-- that refute are trimmed from logs within the budget, and what it leaves open has spent the budget
pub record IsClassified (d : Desc) (family : Family) (budget : ℕ) (cert : Cert) : Type 0 where
  pub of_family : cert.family ≡ family
  pub valid : IsValidCert (question d) (heading_of family) d cert
  pub in_range : All (IsLine (shape_of d)) (cert_lines d (heading_of family) cert)
  pub listed : All AreListed cert.findings
  pub searched : AreSearched d family budget cert.findings
