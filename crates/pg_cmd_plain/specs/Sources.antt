-- A source: what bytes come to as one, and the step that loads and assembles it.
use Rattle.std.specs.Prelude.{◌≡◌, ℕ, List, Option, None, Some, Result, Ok, Err}
use Rattle.pg_asm.specs.declared.fault.AsmFault.{AsmFault}
use Rattle.pg_asm.specs.declared.fault.AsmFault.TheVariants as asm_fault
use Rattle.pg_asm.specs.Sources.{most_source_bytes, source_due}
use Rattle.pg_ast.specs.declared.tree.Desc.{Desc}
use Rattle.pg_edge.specs.Shelf.{Files}
use Rattle.pg_report.specs.declared.line.RefusalLine.TheVariants.{Source}
use Rattle.pg_report.specs.declared.line.SourceLine.{SourceLine}
use Rattle.pg_report.specs.declared.line.SourceLine.TheVariants as told_source
use Rattle.pg_cmd_base.specs.declared.refusal.Refusal.{Refusal}
use Rattle.pg_cmd_base.specs.FileSteps.{FromFile}
use Rattle.pg_cmd_base.specs.Refusals.{of_file}
use Rattle.pg_cmd_base.specs.Steps.{Step, As}

-- what is told of bytes that are no source
abbrev pub told_of_source : AsmFault → Option SourceLine
told_of_source asm_fault.Long = Some told_source.Long
told_of_source (asm_fault.Token place) = Some (told_source.Token place)
told_of_source (asm_fault.Grammar n) = Some (told_source.Grammar n)
told_of_source (asm_fault.Name n) = Some (told_source.Name n)
told_of_source (asm_fault.Field n) = Some (told_source.Field n)
told_of_source (asm_fault.Label n) = Some (told_source.Label n)
told_of_source (asm_fault.Range n) = Some (told_source.Range n)
told_of_source (asm_fault.Place n) = Some (told_source.Place n)
told_of_source (asm_fault.Overlap n) = Some (told_source.Overlap n)
told_of_source asm_fault.Memory = None

-- bytes that are no source for a machine and so many cells: their fault is the one that is told
pub record IsNoSource (d : Desc) (size : ℕ) (text : List ℕ) (shown : SourceLine) : Type 0 where
  pub fault : AsmFault
  pub first : source_due d size text ≡ Err fault
  pub told : told_of_source fault ≡ Some shown

-- what bytes within the limit come to as a source: its image, or its first fault
abbrev pub AssembledAs : Desc → ℕ → List ℕ → Result (List ℕ) SourceLine → Type 0
AssembledAs d size text (Ok cells) = source_due d size text ≡ Ok cells
AssembledAs d size text (Err told) = IsNoSource d size text told

-- the source is loaded, and then assembled, for a machine and so many cells
unfoldable pub SourceDue : Option Files → List ℕ → Desc → ℕ → Step Refusal (List ℕ)
SourceDue told name d size = As (of_file Source) (FromFile told name most_source_bytes told_source.Long (AssembledAs d size))
