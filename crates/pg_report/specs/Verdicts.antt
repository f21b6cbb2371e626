-- The text of a verdict: what is known of each instruction, and what follows for the machine. Every line ends with LF.
use Rattle.std.specs.Prelude.{⊤, ℕ, zero, suc, List, [], ◌∷◌, ◌++◌, length, drop, codes, position, unwrap_or, slice_index_or}
use Rattle.pg_word.specs.declared.sparse.Sparse.{Sparse}
use Rattle.pg_word.specs.Sparse.{storage_of}
use Rattle.pg_ast.specs.declared.tree.Desc.{Desc}
use Rattle.pg_image.specs.Lines.{state_text}
use Rattle.pg_type.specs.declared.kind.Kind.{Kind}
use Rattle.pg_type.specs.declared.kind.Kind.TheVariants.{Privileged, Control, ModeDep, Location, Bound, UControl, ULocation, UBound}
use Rattle.pg_cert.specs.declared.cert.Family.{Family}
use Rattle.pg_cert.specs.declared.report.Mark.{Mark}
use Rattle.pg_cert.specs.declared.report.Mark.TheVariants.{Refuted, Shown, Spent}
use Rattle.pg_cert.specs.declared.report.Verdict.{Verdict}
use Rattle.pg_cert.specs.declared.report.Verdict.TheVariants.{Accepted, Refused, Unsettled}
use Rattle.pg_cert.specs.Lines.{kind_text}
use Rattle.pg_cert.specs.Texts.{name_of, DoStateWordsFit}
use Rattle.pg_cert.specs.Verdicts.{kinds_of, kind_count, marks_of, is_shown, verdict_of}
use Rattle.pg_report.specs.Texts.{name_text}

-- ---- what is known of an instruction

-- two states show that it is not privileged
abbrev pub privileged_answer : Mark → List ℕ
privileged_answer Refuted = codes "yes"
privileged_answer (Shown s t) = codes "no"
privileged_answer (Spent k) = codes "open"

-- two states show that it is sensitive
abbrev pub sensitive_answer : Mark → List ℕ
sensitive_answer Refuted = codes "no"
sensitive_answer (Shown s t) = codes "yes"
sensitive_answer (Spent k) = codes "open"

-- whether it is of a kind
abbrev pub answer_of : Kind → Mark → List ℕ
answer_of Privileged mark = privileged_answer mark
answer_of Control mark = sensitive_answer mark
answer_of ModeDep mark = sensitive_answer mark
answer_of Location mark = sensitive_answer mark
answer_of Bound mark = sensitive_answer mark
answer_of UControl mark = sensitive_answer mark
answer_of ULocation mark = sensitive_answer mark
answer_of UBound mark = sensitive_answer mark

abbrev pub answer_text : Kind → Mark → List ℕ
answer_text kind mark = 32 ∷ kind_text kind ++ 32 ∷ answer_of kind mark

-- kinds in order, each with the answer of its mark
unfoldable pub answers_text : List Kind → List Mark → List ℕ
answers_text [] marks = []
answers_text (kind ∷ kinds) [] = []
answers_text (kind ∷ kinds) (mark ∷ marks) = answer_text kind mark ++ answers_text kinds marks

-- the line of an instruction of this name and these marks
unfoldable pub answer_line : List ℕ → Family → List Mark → List ℕ
answer_line name family marks = name_text name ++ answers_text (kinds_of family) marks ++ 10 ∷ []

-- the lines of the first instructions
unfoldable pub answer_lines : Desc → Family → List Mark → ℕ → List ℕ
answer_lines d family marks zero = []
answer_lines d family marks (suc i) = answer_lines d family marks i ++ answer_line (name_of d i) family (marks_of (kind_count family) marks i)

-- ---- states that show a kind

-- the text of the state that is listed
unfoldable pub sparse_text : ℕ → Sparse → List ℕ
sparse_text w s = state_text w (storage_of s.size s.cells) s.psw

-- the line of a kind
unfoldable pub kind_line : Kind → List ℕ
kind_line kind = kind_text kind ++ 10 ∷ []

-- a kind, and the two states that show it
unfoldable pub shown_text : ℕ → Kind → Mark → List ℕ
shown_text w kind Refuted = []
shown_text w kind (Shown s t) = kind_line kind ++ (sparse_text w s ++ sparse_text w t)
shown_text w kind (Spent k) = []

-- the kind at this place of the family, with the mark at the place
unfoldable pub shown_at : ℕ → Family → List Mark → ℕ → List ℕ
shown_at w family marks place = shown_text w (slice_index_or (kinds_of family) place Privileged) (slice_index_or marks place Refuted)

-- the place of the first mark that is shown behind that of privileged
abbrev pub shown_place : List Mark → ℕ
shown_place marks = suc (unwrap_or (position is_shown (drop 1 marks)) 0)

-- ---- the verdict

-- `accepted`
unfoldable pub accepted_line : List ℕ
accepted_line = codes "accepted" ++ 10 ∷ []

-- `refused NAME`
unfoldable pub refused_line : List ℕ → List ℕ
refused_line name = codes "refused " ++ name_text name ++ 10 ∷ []

-- `open NAME KIND`
unfoldable pub unsettled_line : List ℕ → Kind → List ℕ
unsettled_line name kind = codes "open " ++ name_text name ++ 32 ∷ kind_text kind ++ 10 ∷ []

-- why an instruction breaks the rule: the states that show that it is not privileged, and those of its first sensitive kind
unfoldable pub breach_text : ℕ → Family → List Mark → List ℕ
breach_text w family marks = shown_at w family marks 0 ++ shown_at w family marks (shown_place marks)

-- the line of a verdict
unfoldable pub outcome_line : Desc → Verdict → List ℕ
outcome_line d Accepted = accepted_line
outcome_line d (Refused i) = refused_line (name_of d i)
outcome_line d (Unsettled i kind) = unsettled_line (name_of d i) kind

-- the states that a verdict rests on: of a breach, where it is refused
unfoldable pub evidence_text : Desc → Family → List Mark → Verdict → List ℕ
evidence_text d family marks Accepted = []
evidence_text d family marks (Refused i) = breach_text d.word family (marks_of (kind_count family) marks i)
evidence_text d family marks (Unsettled i kind) = []

unfoldable pub conclusion_text : Desc → Family → List Mark → Verdict → List ℕ
conclusion_text d family marks v = outcome_line d v ++ evidence_text d family marks v

-- a line for each instruction, and the verdict
unfoldable pub verdict_text : Desc → Family → List Mark → List ℕ
verdict_text d family marks = answer_lines d family marks (length d.instrs) ++ conclusion_text d family marks (verdict_of family marks)

-- ---- what can be put

-- the words of the states that are kept have w bits
abbrev pub DoMarkWordsFit : ℕ → Mark → Type 0
DoMarkWordsFit w Refuted = ⊤
DoMarkWordsFit w (Shown s t) = DoStateWordsFit w s × DoStateWordsFit w t
DoMarkWordsFit w (Spent k) = ⊤
