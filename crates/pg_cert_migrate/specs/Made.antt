-- What is made of the marks of a certificate and its logs, finding by finding.
use Rattle.std.specs.Prelude.{◌≡◌, ℕ, ◌+◌, ◌*◌, ◌≤◌, ℤ, List, [], ◌∷◌, length, Some, slice_get}
use Rattle.pg_ast.specs.declared.tree.Instr.{Instr}
use Rattle.pg_ast.specs.declared.tree.Desc.{Desc}
use Rattle.pg_proof.specs.declared.step.Step.{Step}
use Rattle.pg_proof.specs.declared.step.Act.{Act}
use Rattle.pg_proof.specs.declared.step.Act.TheVariants.{Add, Remove}
use Rattle.pg_proof.specs.Log.{IsClosedLog}
use Rattle.pg_proof.specs.Trimmed.{IsTrimmed}
use Rattle.pg_ask.specs.Question.{question}
use Rattle.pg_cert.specs.declared.cert.Family.{Family}
use Rattle.pg_cert.specs.declared.cert.Finding.{Finding}
use Rattle.pg_cert.specs.declared.cert.Finding.TheVariants as finding
use Rattle.pg_cert.specs.declared.report.Mark.{Mark}
use Rattle.pg_cert.specs.declared.report.Mark.TheVariants.{Refuted, Shown, Spent}
use Rattle.pg_cert.specs.Verdicts.{kind_count}
use Rattle.pg_cert.specs.Texts.{instr_of, kind_of}
use Rattle.pg_cert.specs.InRange.{IsNumbered}
use Rattle.pg_verify.specs.Feeding.{most_bytes}

-- the steps of a log
abbrev pub steps_of : List Act → List Step
steps_of [] = []
steps_of (Add step ∷ acts) = step ∷ steps_of acts
steps_of (Remove numbers ∷ acts) = steps_of acts

-- a log that refutes is trimmed, and its numbers are such as lines can have; states stay, and so does a log that spends its budget
abbrev pub IsMade : List (List ℤ) → Mark → List Act → Finding → Type 0
IsMade clauses Refuted log (finding.Refuted kept) = IsTrimmed clauses log kept × IsNumbered clauses log
IsMade clauses Refuted log (finding.Shown s t) = ⊥
IsMade clauses Refuted log (finding.Spent k steps) = ⊥
IsMade clauses (Shown s t) log f = f ≡ finding.Shown s t
IsMade clauses (Spent k) log f = f ≡ finding.Spent k (steps_of log)

-- of the question of a number
abbrev pub IsMadeAt : Desc → Family → ℕ → Mark → List Act → Finding → Type 0
IsMadeAt d family n mark log f =
    (i : Instr) → slice_get d.instrs (instr_of family n) ≡ Some i → IsMade (question d i (kind_of family n)) mark log f

-- there is a mark and a log for each instruction and each kind, a log has fewer acts than a text has bytes, and one that refutes is
-- closed
pub record AreReady (d : Desc) (family : Family) (marks : List Mark) (logs : List (List Act)) : Type 0 where
  pub whole : length marks ≡ length d.instrs * kind_count family
  pub one_each : length logs ≡ length marks
  pub few : (n : ℕ) (log : List Act) → slice_get logs n ≡ Some log → length log ≤ most_bytes
  pub closed : (n : ℕ) (log : List Act) (i : Instr) → slice_get marks n ≡ Some Refuted → slice_get logs n ≡ Some log →
      slice_get d.instrs (instr_of family n) ≡ Some i → IsClosedLog (question d i (kind_of family n)) log

-- findings from a number on are made of their marks and logs
abbrev pub AreMadeFrom : Desc → Family → List Mark → List (List Act) → ℕ → List Finding → Type 0
AreMadeFrom d family marks logs k findings =
    (n : ℕ) (mark : Mark) (log : List Act) (f : Finding) → slice_get marks (k + n) ≡ Some mark → slice_get logs (k + n) ≡ Some log →
    slice_get findings n ≡ Some f → IsMadeAt d family (k + n) mark log f

-- and all of them
pub record AreMade (d : Desc) (family : Family) (marks : List Mark) (logs : List (List Act)) (findings : List Finding) : Type 0 where
  pub whole : length findings ≡ length marks
  pub made : AreMadeFrom d family marks logs 0 findings
