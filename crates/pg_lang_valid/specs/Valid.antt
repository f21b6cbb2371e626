-- *Valid*: the seven classes of validity, each a condition on the description alone, and the fault that a check names.
use Rattle.std.specs.Prelude.{◌≡◌, ℕ, ◌+◌, ◌*◌, ◌%◌, ◌^◌, Bool, ◌&&◌, ◌==◌, nat_le, nat_lt, if◌then◌else◌, List, Option, None, Some}
use Rattle.pg_word.specs.Shape.{bits_above}
use Rattle.pg_ast.specs.declared.tree.Desc.{Desc}
use Rattle.pg_lang_valid.specs.declared.fault.Limit.{Limit}
use Rattle.pg_lang_valid.specs.declared.fault.TypeFault.{TypeFault}
use Rattle.pg_lang_valid.specs.declared.fault.TypeFault.TheVariants.{Shape, Limit as OverLimit, Twice, Pattern, Overlap, Name, Width}
use Rattle.pg_lang_valid.specs.Limits.{limit_broken}
use Rattle.pg_lang_valid.specs.Twice.{name_twice, first_of_two}
use Rattle.pg_lang_valid.specs.Overlaps.{pattern_broken, overlap}
use Rattle.pg_lang_valid.specs.Scopes.{name_unknown}
use Rattle.pg_lang_valid.specs.Widths.{Broken, width_broken}

-- the head gives the numbers of a machine that there can be
abbrev pub has_shape : ℕ → ℕ → ℕ → Bool → Bool
has_shape w a q causes =
    (w % 8 == 0) && nat_le 16 w && nat_le w 64 && nat_le 4 a && nat_le a 20 && nat_le (3 * a + bits_above causes) w
    && nat_le 4 q && nat_lt q (2 ^ a)

abbrev pub shape_fault : Desc → Option TypeFault
shape_fault d = (if has_shape d.word d.address d.size d.causes then None else Some Shape)

abbrev pub as_limit : Option (Limit × ℕ) → Option TypeFault
as_limit None = None
as_limit (Some x) = Some (OverLimit x.0 x.1)

abbrev pub limit_fault : Desc → Option TypeFault
limit_fault d = as_limit (limit_broken 0 d.instrs)

abbrev pub as_twice : Option (List ℕ) → Option TypeFault
as_twice None = None
as_twice (Some name) = Some (Twice name)

abbrev pub twice_fault : Desc → Option TypeFault
twice_fault d = as_twice (name_twice d.instrs)

abbrev pub as_pattern : Option ℕ → Option TypeFault
as_pattern None = None
as_pattern (Some k) = Some (Pattern k)

abbrev pub pattern_fault : Desc → Option TypeFault
pattern_fault d = as_pattern (pattern_broken d.word 0 d.instrs)

abbrev pub as_overlap : Option (ℕ × ℕ) → Option TypeFault
as_overlap None = None
as_overlap (Some x) = Some (Overlap x.0 x.1)

abbrev pub overlap_fault : Desc → Option TypeFault
overlap_fault d = as_overlap (overlap 0 d.instrs)

abbrev pub as_name : Option (ℕ × List ℕ) → Option TypeFault
as_name None = None
as_name (Some x) = Some (Name x.0 x.1)

abbrev pub name_fault : Desc → Option TypeFault
name_fault d = as_name (name_unknown 0 d.instrs)

abbrev pub as_width : Option (ℕ × Broken) → Option TypeFault
as_width None = None
as_width (Some x) = Some (Width x.0 x.1.0 x.1.1)

abbrev pub width_fault : Desc → Option TypeFault
width_fault d = as_width (width_broken d 0 d.instrs)

-- *Valid*: no class has a fault
pub record IsValid (d : Desc) : Type 0 where
  pub shape : shape_fault d ≡ None
  pub limits : limit_fault d ≡ None
  pub names_once : twice_fault d ≡ None
  pub patterns : pattern_fault d ≡ None
  pub apart : overlap_fault d ≡ None
  pub names_known : name_fault d ≡ None
  pub widths : width_fault d ≡ None

-- the fault of the first class that has one; each class goes over the whole description before the next
unfoldable pub fault_of : Desc → Option TypeFault
fault_of d =
    first_of_two (shape_fault d) (first_of_two (limit_fault d) (first_of_two (twice_fault d) (first_of_two (pattern_fault d)
    (first_of_two (overlap_fault d) (first_of_two (name_fault d) (width_fault d))))))
