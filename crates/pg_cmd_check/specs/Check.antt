-- `check` and `hcheck`: the question of each instruction and each kind of a family, with evidence for what is found, and the
-- verdict of it.
use Rattle.std.specs.Prelude.{ℕ, List, Option, Some}
use Rattle.pg_ast.specs.declared.tree.Desc.{Desc}
use Rattle.pg_cert.specs.declared.cert.Family.{Family}
use Rattle.pg_cert.specs.declared.report.Report.{Report}
use Rattle.pg_cmd_certs.specs.Checked.{IsChecked}
use Rattle.pg_cmd_certs.specs.Saving.{EndsSaved, LeavesUnsaved}
use Rattle.pg_cli_table.specs.declared.check.CheckWords.{CheckWords}
use Rattle.pg_edge.specs.Shelf.{Files}
use Rattle.pg_cmd_base.specs.declared.status.Status.{Status}
use Rattle.pg_cmd_base.specs.declared.refusal.Refusal.{Refusal}
use Rattle.pg_cmd_base.specs.Commands.{Command}
use Rattle.pg_cmd_base.specs.Descriptions.{DescDue}
use Rattle.pg_cmd_base.specs.Steps.{Step}
use Rattle.pg_cmd_base.specs.World.{World}

-- the description alone: whatever the solver finds of it, there is a certificate
abbrev pub CheckDue : CheckWords → Option Files → Step Refusal Desc
CheckDue c told = DescDue told c.desc

-- such a certificate is saved
pub record CheckEnds (family : Family) (c : CheckWords) (d : Desc) (old new : World) (given : Status) (text : List ℕ) : Type 0 where
  pub bytes : List ℕ
  pub report : Report
  pub checked : IsChecked d family c.budget bytes report
  pub saved : EndsSaved c.cert family bytes (record { desc = d; report = report }) old new given text

-- or the save of it failed
pub record CheckUnsaved (family : Family) (c : CheckWords) (d : Desc) (old new : World) : Type 0 where
  pub bytes : List ℕ
  pub report : Report
  pub checked : IsChecked d family c.budget bytes report
  pub unsaved : LeavesUnsaved c.cert bytes old new

-- memory is refused before the save alone
abbrev pub check_command : Family → CheckWords → Command
check_command family c = record {
  Work = Desc;
  due = CheckDue c;
  saved = Some c.cert;
  ends = CheckEnds family c;
  unsaved = CheckUnsaved family c;
  starved = λ d old new. ⊥;
}
