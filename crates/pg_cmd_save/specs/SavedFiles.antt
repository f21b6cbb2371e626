-- The text of a saved guest: what bytes come to as one, and the step that loads and reads it.
use Rattle.std.specs.Prelude.{◌≡◌, ℕ, List, Option, None, Some, Result, Ok, Err}
use Rattle.pg_ast.specs.declared.tree.Desc.{Desc}
use Rattle.pg_edge.specs.Shelf.{Files}
use Rattle.pg_lang_meaning.specs.States.{shape_of}
use Rattle.pg_move.specs.declared.fault.SavedFault.{SavedFault}
use Rattle.pg_move.specs.declared.fault.SavedFault.TheVariants as saved_fault
use Rattle.pg_move.specs.Reading.{saved_due}
use Rattle.pg_move.specs.Texts.{SavedGuest, most_bytes}
use Rattle.pg_report.specs.declared.line.RefusalLine.TheVariants.{Saved}
use Rattle.pg_report.specs.declared.line.SavedLine.{SavedLine}
use Rattle.pg_report.specs.declared.line.SavedLine.TheVariants as told_saved
use Rattle.pg_cmd_base.specs.declared.refusal.Refusal.{Refusal}
use Rattle.pg_cmd_base.specs.FileSteps.{FromFile}
use Rattle.pg_cmd_base.specs.Refusals.{of_file}
use Rattle.pg_cmd_base.specs.Steps.{Step, As}

-- what is told of bytes that are no saved text
abbrev pub told_of_saved : SavedFault → Option SavedLine
told_of_saved saved_fault.Long = Some told_saved.Long
told_of_saved (saved_fault.Token n) = Some (told_saved.Token n)
told_of_saved (saved_fault.Grammar n) = Some (told_saved.Grammar n)
told_of_saved (saved_fault.Version n) = Some (told_saved.Version n)
told_of_saved saved_fault.Memory = None

-- bytes that are no saved text for machines of a description's shape: their fault is the one that is told
pub record IsNotSaved (d : Desc) (text : List ℕ) (shown : SavedLine) : Type 0 where
  pub fault : SavedFault
  pub first : saved_due (shape_of d) text ≡ Err fault
  pub told : told_of_saved fault ≡ Some shown

-- what bytes within the limit come to as a saved text
abbrev pub ReadsSaved : Desc → List ℕ → Result SavedGuest SavedLine → Type 0
ReadsSaved d text (Ok g) = saved_due (shape_of d) text ≡ Ok g
ReadsSaved d text (Err told) = IsNotSaved d text told

-- the saved text is loaded, and then read
unfoldable pub SavedDue : Option Files → List ℕ → Desc → Step Refusal SavedGuest
SavedDue told name d = As (of_file Saved) (FromFile told name most_bytes told_saved.Long (ReadsSaved d))
