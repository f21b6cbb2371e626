-- What the verdict of a certificate means for the machine that it is of.
use Rattle.std.specs.Prelude.{◌≡◌, ◌⊎◌, ℕ, ◌≤◌, List, map, slice_get, slice_index_or, Some}
use Rattle.pg_word.specs.declared.sparse.Sparse.{Sparse}
use Rattle.pg_ast.specs.declared.tree.Instr.{Instr}
use Rattle.pg_ast.specs.declared.tree.Desc.{Desc}
use Rattle.pg_type.specs.declared.kind.Kind.{Kind}
use Rattle.pg_type.specs.declared.kind.Kind.TheVariants.{Privileged}
use Rattle.pg_type.specs.Kinds.{Shows}
use Rattle.pg_type.specs.Listed.{state_of}
use Rattle.pg_type.specs.Accepting.{IsPrivileged, IsInnocuous, IsAccepted, IsUserInnocuous, IsHybridAccepted}
use Rattle.pg_proof.specs.declared.step.Step.{Step}
use Rattle.pg_proof.specs.declared.step.Act.TheVariants.{Add}
use Rattle.pg_proof.specs.Log.{IsSpent}
use Rattle.pg_ask.specs.Question.{question}
use Rattle.pg_cert.specs.declared.cert.Family.{Family}
use Rattle.pg_cert.specs.declared.cert.Family.TheVariants.{Plain, Hybrid}
use Rattle.pg_cert.specs.declared.report.Mark.{Mark}
use Rattle.pg_cert.specs.declared.report.Mark.TheVariants.{Refuted, Shown, Spent}
use Rattle.pg_cert.specs.declared.report.Report.{Report}
use Rattle.pg_cert.specs.declared.report.Verdict.{Verdict}
use Rattle.pg_cert.specs.declared.report.Verdict.TheVariants.{Accepted, Refused, Unsettled}
use Rattle.pg_cert.specs.Texts.{instr_of, kind_of}
use Rattle.pg_cert.specs.Verdicts.{kinds_of, kind_count, marks_of, verdict_of}
use Rattle.pg_report.specs.Verdicts.{shown_place}

-- the marks of an instruction, in the order of the kinds
abbrev pub marks_at : Report → ℕ → List Mark
marks_at report number = marks_of (kind_count report.family) report.marks number

-- the kind at a place of a family, and the mark at the place
abbrev pub kind_at : Family → ℕ → Kind
kind_at family place = slice_index_or (kinds_of family) place Privileged

abbrev pub mark_at : List Mark → ℕ → Mark
mark_at marks place = slice_index_or marks place Refuted

-- a mark has two states that show a kind
abbrev pub HasShown : Desc → Instr → Kind → Mark → Type 0
HasShown d i kind Refuted = ⊥
HasShown d i kind (Shown s t) = Shows d i kind (state_of s) (state_of t)
HasShown d i kind (Spent budget) = ⊥

-- a log spends this budget on the question of a kind
pub record IsSpentOn (d : Desc) (i : Instr) (kind : Kind) (budget : ℕ) : Type 0 where
  pub some : 1 ≤ budget
  pub steps : List Step
  pub spent : IsSpent (question d i kind) budget (map Add steps)

-- an instruction of none of the sensitive kinds of a family
abbrev pub HasNoKind : Family → Desc → Instr → Type 0
HasNoKind Plain d i = IsInnocuous d i
HasNoKind Hybrid d i = IsUserInnocuous d i

-- the condition that a family asks about: that of Theorem 1, or that of Theorem 3
abbrev pub IsAcceptedBy : Family → Desc → Type 0
IsAcceptedBy Plain d = IsAccepted d
IsAcceptedBy Hybrid d = IsHybridAccepted d

-- the instruction of this number is neither privileged nor without a sensitive kind: so say the two states of each kind whose states are told
pub record MeansRefused (d : Desc) (report : Report) (number : ℕ) : Type 0 where
  pub instr : Instr
  pub at : slice_get d.instrs number ≡ Some instr
  pub not_privileged : HasShown d instr Privileged (mark_at (marks_at report number) 0)
  pub sensitive : HasShown d instr (kind_at report.family (shown_place (marks_at report number))) (mark_at (marks_at report number) (shown_place (marks_at report number)))
  pub neither : ¬ (IsPrivileged d instr ⊎ HasNoKind report.family d instr)

-- the question of this kind of the instruction of this number was left open: its mark is that of a budget, which a log spends
pub record MeansOpen (d : Desc) (report : Report) (number : ℕ) (kind : Kind) : Type 0 where
  pub instr : Instr
  pub at : slice_get d.instrs number ≡ Some instr
  pub place : ℕ
  pub is_kind : slice_get (kinds_of report.family) place ≡ Some kind
  pub budget : ℕ
  pub mark : slice_get (marks_at report number) place ≡ Some (Spent budget)
  pub spent : IsSpentOn d instr kind budget

-- the states that marks keep show the kinds whose marks they are
abbrev pub AreShown : Desc → Report → Type 0
AreShown d report = (n : ℕ) (s t : Sparse) (i : Instr) → slice_get report.marks n ≡ Some (Shown s t) →
    slice_get d.instrs (instr_of report.family n) ≡ Some i → Shows d i (kind_of report.family n) (state_of s) (state_of t)

-- what a verdict means
abbrev pub Means : Desc → Report → Verdict → Type 0
Means d report Accepted = IsAcceptedBy report.family d
Means d report (Refused number) = MeansRefused d report number
Means d report (Unsettled number kind) = MeansOpen d report number kind

-- what the verdict of what is kept of a certificate means
pub record VerdictMeans (d : Desc) (report : Report) : Type 0 where
  pub means : Means d report (verdict_of report.family report.marks)
