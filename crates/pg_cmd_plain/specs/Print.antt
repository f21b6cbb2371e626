-- `print`: a description in one layout.
use Rattle.std.specs.Prelude.{◌≡◌, ℕ, List, Option, None}
use Rattle.pg_ast.specs.declared.tree.Desc.{Desc}
use Rattle.pg_cli_table.specs.declared.print.PrintWords.{PrintWords}
use Rattle.pg_edge.specs.Shelf.{Files}
use Rattle.pg_lang_print.specs.Layout.{printed}
use Rattle.pg_cmd_base.specs.declared.status.Status.{Status}
use Rattle.pg_cmd_base.specs.declared.status.Status.TheVariants as status
use Rattle.pg_cmd_base.specs.declared.refusal.Refusal.{Refusal}
use Rattle.pg_cmd_base.specs.Commands.{Command}
use Rattle.pg_cmd_base.specs.Descriptions.{DescDue}
use Rattle.pg_cmd_base.specs.Steps.{Step}
use Rattle.pg_cmd_base.specs.World.{World, IsUntouched}

-- the description, and then its text
abbrev pub PrintDue : PrintWords → Option Files → Step Refusal Desc
PrintDue p told = DescDue told p.desc

-- its text is the description in that layout, and nothing else is touched
pub record PrintEnds (d : Desc) (old new : World) (given : Status) (text : List ℕ) : Type 0 where
  pub status : given ≡ status.Done
  pub wording : text ≡ printed d
  pub untouched : IsUntouched old new

-- the text is made before any of it is put
abbrev pub print_command : PrintWords → Command
print_command p = record {
  Work = Desc;
  due = PrintDue p;
  saved = None;
  ends = PrintEnds;
  unsaved = λ d old new. ⊥;
  starved = λ d old new. ⊥;
}
