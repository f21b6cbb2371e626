-- What a test of a description answers.
use Rattle.std.specs.Prelude.{◌≡◌, ◌⊎◌, Option, Some}
use Rattle.pg_ast.specs.declared.tree.Desc.{Desc}
use Rattle.pg_lang_valid.specs.declared.fault.TypeFault.{TypeFault}
use Rattle.pg_lang_valid.specs.declared.fault.TypeFault.TheVariants.{Memory}
use Rattle.pg_lang_valid.specs.Twice.{first_of_two}
use Rattle.pg_lang_valid.specs.Valid.{pattern_fault, overlap_fault, name_fault, width_fault, fault_of}

-- the fault that is due, unless memory was refused
abbrev pub IsFaultOf : Option TypeFault → TypeFault → Type 0
IsFaultOf due fault = (fault ≡ Memory) ⊎ (due ≡ Some fault)

-- the fault of the first class that has one, unless memory was refused
abbrev pub IsFault : Desc → TypeFault → Type 0
IsFault d fault = IsFaultOf (fault_of d) fault

-- the fault of the first of the last four classes that has one: those of patterns and of bodies
unfoldable pub part_fault : Desc → Option TypeFault
part_fault d = first_of_two (pattern_fault d) (first_of_two (overlap_fault d) (first_of_two (name_fault d) (width_fault d)))
