-- What a progress without fault has read: the lines of the findings that are closed, and of the one that is open.
use Rattle.std.proofs.Common.{◌≡◌, ℕ, ◌≤◌, Bool, List, [], ◌∷◌, ◌++◌, length, map, Some, slice_get}
use Rattle.std.specs.Prelude.{⊤, ◌*◌, ℤ}
use Rattle.std.specs.List.{All}
use Rattle.pg_ast.specs.declared.tree.Instr.{Instr}
use Rattle.pg_ast.specs.declared.tree.Desc.{Desc}
use Rattle.pg_proof.specs.declared.step.Step.{Step}
use Rattle.pg_proof.specs.declared.step.Act.{Act}
use Rattle.pg_proof.specs.declared.step.Act.TheVariants as act
use Rattle.pg_proof.specs.State.{State as Log, begun, with_clause}
use Rattle.pg_proof.specs.Log.{after_acts, IsSpentFrom}
use Rattle.pg_ask.specs.Question.{question}
use Rattle.pg_cert.specs.declared.cert.Family.{Family}
use Rattle.pg_cert.specs.declared.cert.Finding.{Finding}
use Rattle.pg_cert.specs.declared.line.Heading.{Heading}
use Rattle.pg_cert.specs.declared.line.Found.{Found}
use Rattle.pg_cert.specs.declared.line.Found.TheVariants as found
use Rattle.pg_cert.specs.declared.line.Line.{Line}
use Rattle.pg_cert.specs.declared.line.Line.TheVariants as line
use Rattle.pg_cert.specs.Lines.{most_budget}
use Rattle.pg_cert.specs.Verdicts.{kind_count, mark_of}
use Rattle.pg_cert.specs.Texts.{act_line, family_of, instr_of, kind_of, name_of, findings_lines, AreListed}
use Rattle.pg_cert.specs.Validity.{may_remove, IsActUnder, IsValidFinding}
use Rattle.pg_cert_drawn.proofs.DrawnLines.{drawn_lines, IsDrawn}
use Rattle.pg_verify.specs.Reader.{Pair, NoState, FirstSize, FirstState, SecondSize, BothStates, Open, Fresh, Between, Refuting, Showing, Spending, Ended, Mark, Progress}
use Rattle.pg_verify.specs.Feeding.{kept}

-- ---- states

abbrev pub pair_lines : Pair → List Line
pair_lines NoState = []
pair_lines (FirstSize n) = line.Size n ∷ []
pair_lines (FirstState s) = drawn_lines s
pair_lines (SecondSize s n) = drawn_lines s ++ line.Size n ∷ []
pair_lines (BothStates s t) = drawn_lines s ++ drawn_lines t

abbrev pub AreDrawn : Pair → Type 0
AreDrawn NoState = ⊤
AreDrawn (FirstSize n) = ⊤
AreDrawn (FirstState s) = IsDrawn s
AreDrawn (SecondSize s n) = IsDrawn s
AreDrawn (BothStates s t) = IsDrawn s × IsDrawn t

-- ---- what stands below a header, of which finding

pub record IsRefuting (heading : Heading) (clauses : List (List ℤ)) (log : Log) (f : Found) (body : List Line) : Type 0
  where
    pub acts : List Act
    pub found_is : f ≡ found.Refuted
    pub reached : after_acts clauses acts ≡ Some log
    pub under : All (IsActUnder heading) acts
    pub lines_are : body ≡ map act_line acts

pub record IsShowing (pair : Pair) (f : Found) (body : List Line) : Type 0 where
  pub found_is : f ≡ found.Shown
  pub drawn : AreDrawn pair
  pub lines_are : body ≡ pair_lines pair

-- the log after steps that are valid
abbrev pub log_after : Log → List Step → Log
log_after log [] = log
log_after log (step ∷ steps) = log_after (with_clause log step.lits) steps

pub record IsSpending (clauses : List (List ℤ)) (budget count : ℕ) (log : Log) (f : Found) (body : List Line) : Type 0
  where
    pub steps : List Step
    pub found_is : f ≡ found.Spent budget
    pub least : 1 ≤ budget
    pub most : budget ≤ most_budget
    pub spent : IsSpentFrom (begun clauses) count (map act.Add steps)
    pub log_is : log ≡ log_after (begun clauses) steps
    pub lines_are : body ≡ map line.Step steps

abbrev pub IsBody : Heading → List (List ℤ) → Open → Found → List Line → Type 0
IsBody heading clauses Fresh f body = ⊥
IsBody heading clauses Between f body = ⊥
IsBody heading clauses (Refuting header log) f body = IsRefuting heading clauses log f body
IsBody heading clauses (Showing header pair) f body = IsShowing pair f body
IsBody heading clauses (Spending header budget count log) f body = IsSpending clauses budget count log f body
IsBody heading clauses Ended f body = ⊥

-- ---- findings

-- each finding is valid, for the instruction and the kind of its number
abbrev pub AreValid : Desc → Family → Heading → List Finding → Type 0
AreValid d family heading fs =
    (n : ℕ) (f : Finding) (i : Instr) → slice_get fs n ≡ Some f → slice_get d.instrs (instr_of family n) ≡ Some i →
    IsValidFinding (question d i (kind_of family n)) heading d i (kind_of family n) f

-- the first line, and findings that are closed
pub record IsFront (d : Desc) (family : Family) (removes : Bool) (marks : List Mark) (heading : Heading)
    (fs : List Finding) (lines : List Line) : Type 0 where
  pub family_is : family_of heading ≡ family
  pub removes_is : removes ≡ may_remove heading
  pub marks_are : marks ≡ map (λ f. kept (mark_of f)) fs
  pub each : AreValid d family heading fs
  pub listed : All AreListed fs
  pub lines_are : lines ≡ line.First heading ∷ findings_lines d family 0 fs

pub record IsBetween (d : Desc) (family : Family) (removes : Bool) (marks : List Mark) (lines : List Line) : Type 0
  where
    pub heading : Heading
    pub findings : List Finding
    pub front : IsFront d family removes marks heading findings lines

-- and the header of a finding that is open, of an instruction that there is, with what stands below it
pub record IsOpenAt (d : Desc) (family : Family) (removes : Bool) (marks : List Mark) (lines : List Line)
    (o : Open) : Type 0 where
  pub heading : Heading
  pub findings : List Finding
  pub before : List Line
  pub instr : Instr
  pub found : Found
  pub body : List Line
  pub front : IsFront d family removes marks heading findings before
  pub instr_is : slice_get d.instrs (instr_of family (length marks)) ≡ Some instr
  pub body_is : IsBody heading (question d instr (kind_of family (length marks))) o found body
  pub lines_are : lines ≡ before ++ line.Header (name_of d (instr_of family (length marks)))
      (kind_of family (length marks)) found ∷ body

-- and the last line, behind all findings
pub record IsEndedAt (d : Desc) (family : Family) (removes : Bool) (marks : List Mark) (lines : List Line) : Type 0
  where
    pub heading : Heading
    pub findings : List Finding
    pub before : List Line
    pub front : IsFront d family removes marks heading findings before
    pub whole : length marks ≡ length d.instrs * kind_count family
    pub lines_are : lines ≡ before ++ line.End ∷ []

abbrev pub IsAt : Desc → Family → Bool → List Mark → List Line → Open → Type 0
IsAt d family removes marks lines Fresh = (lines ≡ []) × (marks ≡ [])
IsAt d family removes marks lines Between = IsBetween d family removes marks lines
IsAt d family removes marks lines (Refuting header log) = IsOpenAt d family removes marks lines (Refuting header log)
IsAt d family removes marks lines (Showing header pair) = IsOpenAt d family removes marks lines (Showing header pair)
IsAt d family removes marks lines (Spending header budget count log) =
    IsOpenAt d family removes marks lines (Spending header budget count log)
IsAt d family removes marks lines Ended = IsEndedAt d family removes marks lines

-- ---- progress

-- what a line leaves as it is
pub record Keeps (p q : Progress) : Type 0 where
  pub desc : q.desc ≡ p.desc
  pub family : q.family ≡ p.family
  pub lines : q.lines ≡ p.lines
  pub fed : q.fed ≡ p.fed
  pub rest : q.rest ≡ p.rest

pub record Stands (p q : Progress) (lines : List Line) : Type 0 where
  pub keeps : Keeps p q
  pub at : IsAt q.desc q.family q.removes q.marks lines q.opened
