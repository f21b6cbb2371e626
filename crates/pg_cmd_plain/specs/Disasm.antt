-- `disasm`: an image, written as a source that gives it.
use Rattle.std.specs.Prelude.{◌≡◌, ◌≤◌, ℕ, List, length, Option, None, Ok}
use Rattle.pg_cli_table.specs.declared.disasm.DisasmWords.{DisasmWords}
use Rattle.pg_asm.specs.Sources.{most_source_bytes, source_due}
use Rattle.pg_asm.specs.Texts.{source_text}
use Rattle.pg_edge.specs.Shelf.{Files}
use Rattle.pg_cmd_base.specs.Images.{ImageDue}
use Rattle.pg_cmd_base.specs.declared.refusal.Refusal.{Refusal}
use Rattle.pg_cmd_base.specs.declared.status.Status.{Status}
use Rattle.pg_cmd_base.specs.declared.status.Status.TheVariants as status
use Rattle.pg_cmd_base.specs.Commands.{Command}
use Rattle.pg_cmd_base.specs.Steps.{Step, Then, Gives}
use Rattle.pg_cmd_base.specs.World.{World, IsUntouched}
use Rattle.pg_cmd_plain.specs.Asm.{ImageOf}
use Rattle.pg_cmd_plain.specs.Machines.{MachineDue}

-- the machine, its room, and the image
unfoldable pub DisasmDue : DisasmWords → Option Files → Step Refusal ImageOf
DisasmDue a told =
    Then (MachineDue told a.desc a.grant) (λ d. Then (ImageDue told 0 a.image d.word a.grant) (λ image. Gives (record { desc = d; image = image })))

-- its text is the source that is due for the image; within the limit of sources it is assembled to that image. Nothing else is
-- touched
pub record DisasmEnds (i : ImageOf) (old new : World) (given : Status) (text : List ℕ) : Type 0 where
  pub status : given ≡ status.Done
  pub wording : text ≡ source_text i.desc 0 i.image
  pub assembles : length text ≤ most_source_bytes → source_due i.desc (length i.image) text ≡ Ok i.image
  pub untouched : IsUntouched old new

-- the text is made before any of it is put
abbrev pub disasm_command : DisasmWords → Command
disasm_command a = record {
  Work = ImageOf;
  due = DisasmDue a;
  saved = None;
  ends = DisasmEnds;
  unsaved = λ i old new. ⊥;
  starved = λ i old new. ⊥;
}
