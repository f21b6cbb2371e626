-- Refusals: how the reasons of steps are told, with which status and which text.
use Rattle.std.specs.Prelude.{ℕ, List, Option, None, Some}
use Rattle.pg_report.specs.declared.line.RefusalLine.{RefusalLine}
use Rattle.pg_report.specs.declared.line.RefusalLine.TheVariants.{Description, Image, Certificate, Room, Source, Saved}
use Rattle.pg_cli_table.specs.Commands.{usage_text}
use Rattle.pg_report.specs.Texts.{refusal_text}
use Rattle.pg_cmd_base.specs.declared.status.Status.{Status}
use Rattle.pg_cmd_base.specs.declared.status.Status.TheVariants as status
use Rattle.pg_cmd_base.specs.declared.refusal.Refusal.{Refusal}
use Rattle.pg_cmd_base.specs.declared.refusal.Refusal.TheVariants.{Words, Missing, Line}
use Rattle.pg_cmd_base.specs.FileSteps.{FileFault, Absent, Faulty}

-- a file of which nothing came, where its own faults are told in these lines
abbrev pub of_file : {E : Type 0} → (E → RefusalLine) → FileFault E → Refusal
of_file line Absent = Missing
of_file line (Faulty e) = Line (line e)

-- the status of a line
abbrev pub line_status : RefusalLine → Status
line_status (Description line) = status.Description
line_status (Image number line) = status.Image
line_status (Certificate line) = status.Certificate
line_status (Room wanted free) = status.Room
line_status (Source line) = status.Source
line_status (Saved line) = status.Saved

-- the status of a refusal
abbrev pub refusal_status : Refusal → Status
refusal_status Words = status.Words
refusal_status Missing = status.Missing
refusal_status (Line line) = line_status line

-- its text; nothing at all is put for a file that is missing
abbrev pub refusal_said : Refusal → Option (List ℕ)
refusal_said Words = Some usage_text
refusal_said Missing = None
refusal_said (Line line) = Some (refusal_text line)
