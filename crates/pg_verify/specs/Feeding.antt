-- A text that is fed, byte by byte: a line is taken with its LF.
use Rattle.std.specs.Prelude.{◌≢◌, nat_lt, length, ◌≡◌, ℕ, suc, false, ◌==◌, if◌then◌else◌, List, [], ◌∷◌, ◌++◌, map, Result, Ok, Err}
use Rattle.pg_ast.specs.declared.tree.Desc.{Desc}
use Rattle.pg_cert.specs.declared.cert.Family.{Family}
use Rattle.pg_cert.specs.declared.line.Line.TheVariants as line
use Rattle.pg_cert.specs.declared.report.Mark.{Mark as Marks}
use Rattle.pg_cert.specs.declared.report.Mark.TheVariants as mark
use Rattle.pg_cert.specs.declared.report.Report.{Report}
use Rattle.pg_cert_drawn.specs.Drawn.{drawn_of}
use Rattle.pg_verify.specs.declared.fault.VerifyFault.{VerifyFault}
use Rattle.pg_verify.specs.declared.fault.VerifyFault.TheVariants as fault
use Rattle.pg_verify.specs.Reader.{Open, Fresh, Between, Refuting, Showing, Spending, Ended, Mark, Refuted, Shown, Spent, Progress, Reader}
use Rattle.pg_verify.specs.Taking.{then_take, misplaced, after_form, after_line}

-- the most bytes of a certificate
abbrev pub most_bytes : ℕ
most_bytes = 268435456

-- before the first byte
abbrev pub begun : Desc → Family → Progress
begun d family = record { desc = d; family = family; removes = false; marks = []; opened = Fresh; lines = 0; fed = 0; rest = [] }

-- a byte more, which belongs to the line that is not whole, and ends it where it is LF
abbrev pub taken_byte : Progress → ℕ → Reader
taken_byte p c = (if c == 10 then after_line (record p { rest = [] }) (p.rest ++ c ∷ []) else Ok (record p { rest = p.rest ++ c ∷ [] }))

unfoldable pub fed_byte : Progress → ℕ → Reader
fed_byte p c = (if p.fed == most_bytes then Err fault.Long else taken_byte (record p { fed = suc p.fed }) c)

-- bytes more. Once a text is refused nothing more is read of it
unfoldable pub fed : Progress → List ℕ → Reader
fed p [] = Ok p
fed p (c ∷ cs) = then_take (fed_byte p c) (λ after. fed after cs)

-- a refusal that is due in any case, unless another comes first
abbrev pub or_misplaced : ℕ → Reader → Reader
or_misplaced n (Ok p) = misplaced n
or_misplaced n (Err f) = Err f

-- where the last line is missing, what it would refuse comes first
abbrev pub without_end : Progress → Reader
without_end p = or_misplaced (suc p.lines) (after_form (record p { lines = suc p.lines }) line.End)

abbrev pub at_end : Progress → Open → Reader
at_end p Fresh = without_end p
at_end p Between = without_end p
at_end p (Refuting header log) = without_end p
at_end p (Showing header pair) = without_end p
at_end p (Spending header budget count log) = without_end p
at_end p Ended = Ok p

-- bytes that are left are a line without its LF, which is none
abbrev pub at_rest : Progress → List ℕ → Reader
at_rest p [] = at_end p p.opened
at_rest p (c ∷ cs) = or_misplaced (suc p.lines) (after_line (record p { rest = [] }) (c ∷ cs))

-- no byte comes after this
unfoldable pub finished : Progress → Reader
finished p = at_rest p p.rest

-- bytes more, behind which a line ends: what they leave of one is a line without its LF
abbrev pub ended_line : Progress → List ℕ → Reader
ended_line p [] = Ok p
ended_line p (c ∷ cs) = or_misplaced (suc p.lines) (after_line (record p { rest = [] }) (c ∷ cs))

unfoldable pub lined : Progress → List ℕ → Reader
lined p bytes = then_take (fed p bytes) (λ after. ended_line after after.rest)

-- what a text is told to be
unfoldable pub verified : Desc → Family → List ℕ → Reader
verified d family bytes = then_take (fed (begun d family) bytes) finished

-- the same where the text is there whole: that it is too long is told first
abbrev pub verified_whole : Desc → Family → List ℕ → Reader
verified_whole d family bytes = (if nat_lt most_bytes (length bytes) then Err fault.Long else verified d family bytes)

-- ---- what is answered

-- a mark as it is kept
abbrev pub kept : Marks → Mark
kept mark.Refuted = Refuted
kept (mark.Shown s t) = Shown (drawn_of s) (drawn_of t)
kept (mark.Spent k) = Spent k

-- a report has the marks of what was read
pub record IsReportOf (p : Progress) (report : Report) : Type 0 where
  pub family : report.family ≡ p.family
  pub marks : map kept report.marks ≡ p.marks

-- a text that was not refused is told by such a report, and a refused one by none
abbrev pub IsReported : Reader → Report → Type 0
IsReported (Ok p) report = IsReportOf p report
IsReported (Err f) report = ⊥

-- what is answered of what is due: a report, or the refusal. Lack of memory says nothing of the text
abbrev pub IsAnswer : Reader → Result Report VerifyFault → Type 0
IsAnswer due (Ok report) = IsReported due report
IsAnswer due (Err f) = f ≢ fault.Memory → due ≡ Err f
