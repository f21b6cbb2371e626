-- `asm`: a source, assembled into an image.
use Rattle.std.specs.Prelude.{◌≡◌, ℕ, List, length, Option, None, Ok}
use Rattle.pg_cli_table.specs.declared.asm.AsmWords.{AsmWords}
use Rattle.pg_asm.specs.Texts.{asm_text}
use Rattle.pg_ast.specs.declared.tree.Desc.{Desc}
use Rattle.pg_edge.specs.Shelf.{Files}
use Rattle.pg_image.specs.Images.{image_due}
use Rattle.pg_cmd_base.specs.declared.refusal.Refusal.{Refusal}
use Rattle.pg_cmd_base.specs.declared.status.Status.{Status}
use Rattle.pg_cmd_base.specs.declared.status.Status.TheVariants as status
use Rattle.pg_cmd_base.specs.Commands.{Command}
use Rattle.pg_cmd_base.specs.Steps.{Step, Then, Gives}
use Rattle.pg_cmd_base.specs.World.{World, IsUntouched}
use Rattle.pg_cmd_plain.specs.Machines.{MachineDue}
use Rattle.pg_cmd_plain.specs.Sources.{SourceDue}

-- an image of a described machine
pub record ImageOf : Type 0 where
  pub desc : Desc
  pub image : List ℕ

-- the machine, its room, and the source, which is assembled
unfoldable pub AsmDue : AsmWords → Option Files → Step Refusal ImageOf
AsmDue a told =
    Then (MachineDue told a.desc a.grant) (λ d. Then (SourceDue told a.source d a.grant) (λ image. Gives (record { desc = d; image = image })))

-- its text has a line for each cell of the image that is not zero, and reads as that image; nothing else is touched
pub record AsmEnds (i : ImageOf) (old new : World) (given : Status) (text : List ℕ) : Type 0 where
  pub status : given ≡ status.Done
  pub wording : text ≡ asm_text i.desc.word 0 i.image
  pub reads : image_due i.desc.word (length i.image) text ≡ Ok i.image
  pub untouched : IsUntouched old new

-- the text is made before any of it is put
abbrev pub asm_command : AsmWords → Command
asm_command a = record {
  Work = ImageOf;
  due = AsmDue a;
  saved = None;
  ends = AsmEnds;
  unsaved = λ i old new. ⊥;
  starved = λ i old new. ⊥;
}
