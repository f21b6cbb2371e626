-- A description: what bytes come to as one, and the step that loads and reads it.
use Rattle.std.specs.Prelude.{◌≡◌, ℕ, List, length, Option, None, Some, Result, Ok, Err}
use Rattle.pg_edge.specs.Shelf.{Files}
use Rattle.pg_text.specs.Cutting.{cut, tokens_in}
use Rattle.pg_ast.specs.declared.tree.Desc.{Desc}
use Rattle.pg_ast.specs.Tokens.{tokens_of}
use Rattle.pg_lang_valid.specs.declared.fault.TypeFault.{TypeFault}
use Rattle.pg_lang_valid.specs.declared.fault.TypeFault.TheVariants as type_fault
use Rattle.pg_lang_valid.specs.Valid.{IsValid, fault_of}
use Rattle.pg_read.specs.declared.fault.DescFault.{DescFault}
use Rattle.pg_read.specs.declared.fault.DescFault.TheVariants as read_fault
use Rattle.pg_read.specs.Answer.{most_desc_bytes, IsFaultAt, IsGrammarAt, IsTooDeepAt}
use Rattle.pg_report.specs.declared.line.RefusalLine.TheVariants.{Description}
use Rattle.pg_report.specs.declared.line.DescriptionLine.{DescriptionLine}
use Rattle.pg_report.specs.declared.line.DescriptionLine.TheVariants as told_line
use Rattle.pg_cmd_base.specs.declared.refusal.Refusal.{Refusal}
use Rattle.pg_cmd_base.specs.Steps.{Step, As}
use Rattle.pg_cmd_base.specs.FileSteps.{FromFile}
use Rattle.pg_cmd_base.specs.Refusals.{of_file}

-- bytes read as a description: their tokens are its tokens
pub record ReadsAs (text : List ℕ) (d : Desc) : Type 0 where
  pub tokens : tokens_in text ≡ Some (tokens_of d)

-- what is told of bytes that are not read
abbrev pub told_of_reading : DescFault → Option DescriptionLine
told_of_reading read_fault.Long = Some told_line.Long
told_of_reading (read_fault.Token place) = Some (told_line.Token place)
told_of_reading (read_fault.Grammar place) = Some (told_line.Grammar place)
told_of_reading (read_fault.Deep place) = Some (told_line.Deep place)
told_of_reading read_fault.Memory = None

-- what is told of a description that is not valid
abbrev pub told_of_type : TypeFault → Option DescriptionLine
told_of_type type_fault.Shape = Some told_line.Shape
told_of_type (type_fault.Limit limit instr) = Some (told_line.Limit limit instr)
told_of_type (type_fault.Twice name) = Some (told_line.Twice name)
told_of_type (type_fault.Pattern instr) = Some (told_line.Pattern instr)
told_of_type (type_fault.Overlap i j) = Some (told_line.Overlap i j)
told_of_type (type_fault.Name instr name) = Some (told_line.Name instr name)
told_of_type (type_fault.Width instr place how) = Some (told_line.Width instr place how)
told_of_type type_fault.Memory = None

-- bytes that read as a description which is not valid: its fault is the one that is told
pub record IsInvalid (text : List ℕ) (shown : DescriptionLine) : Type 0 where
  pub desc : Desc
  pub reads : ReadsAs text desc
  pub fault : TypeFault
  pub first : fault_of desc ≡ Some fault
  pub told : told_of_type fault ≡ Some shown

-- what bytes within the limit come to as a description
abbrev pub TextDue : List ℕ → Result Desc DescriptionLine → Type 0
TextDue text (Ok d) = ReadsAs text d × IsValid d
TextDue text (Err told_line.Long) = ⊥
TextDue text (Err (told_line.Token place)) = IsFaultAt (cut text) place
TextDue text (Err (told_line.Grammar place)) = IsGrammarAt (cut text) (length text) place
TextDue text (Err (told_line.Deep place)) = IsTooDeepAt (cut text) place
TextDue text (Err line) = IsInvalid text line

-- the description is loaded, and then read
unfoldable pub DescDue : Option Files → List ℕ → Step Refusal Desc
DescDue told name = As (of_file Description) (FromFile told name most_desc_bytes told_line.Long TextDue)
