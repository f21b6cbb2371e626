-- The logs that stand in the text of a certificate: below each header one, which has an act for each line of a step or a removal.
use Rattle.std.specs.Prelude.{◌≡◌, ℕ, List, [], ◌∷◌, ◌++◌}
use Rattle.std.specs.List.{All}
use Rattle.pg_word.specs.declared.shape.Shape.{Shape}
use Rattle.pg_proof.specs.declared.step.Act.{Act}
use Rattle.pg_proof.specs.declared.step.Act.TheVariants as act
use Rattle.pg_cert.specs.declared.line.Line.{Line}
use Rattle.pg_cert.specs.declared.line.Line.TheVariants.{First, Header, Step, Remove, Size, Psw, Cells, End}
use Rattle.pg_cert.specs.Lines.{IsLine}
use Rattle.pg_cert.specs.Parsing.{Said, Says, NoToken, NoForm, OtherVersion}
use Rattle.pg_cert.specs.Texts.{lines_text}

-- an act more of the log that was begun last, if there is one
abbrev pub with_act : List (List Act) → Act → List (List Act)
with_act [] act = []
with_act (log ∷ []) act = (log ++ act ∷ []) ∷ []
with_act (log ∷ next ∷ logs) act = log ∷ with_act (next ∷ logs) act

-- a header begins a log
abbrev pub with_line : List (List Act) → Line → List (List Act)
with_line logs (First heading) = logs
with_line logs (Header name kind found) = logs ++ [] ∷ []
with_line logs (Step step) = with_act logs (act.Add step)
with_line logs (Remove numbers) = with_act logs (act.Remove numbers)
with_line logs (Size size) = logs
with_line logs (Psw psw) = logs
with_line logs (Cells first words) = logs
with_line logs End = logs

abbrev pub with_lines : List (List Act) → List Line → List (List Act)
with_lines logs [] = logs
with_lines logs (line ∷ lines) = with_lines (with_line logs line) lines

abbrev pub logs_of : List Line → List (List Act)
logs_of lines = with_lines [] lines

-- where bytes say no line, nothing
abbrev pub with_said : List (List Act) → Said → List (List Act)
with_said logs (Says line) = with_line logs line
with_said logs NoToken = logs
with_said logs NoForm = logs
with_said logs (OtherVersion family) = logs

-- of bytes that are the text of lines, those of the lines
abbrev pub AreLogsOf : Shape → List ℕ → List (List Act) → Type 0
AreLogsOf shape bytes logs = (lines : List Line) → All (IsLine shape) lines → bytes ≡ lines_text shape lines → logs ≡ logs_of lines
