-- Descriptions that agree: machines of one instruction set that differ in the greatest size of a storage alone.
use Rattle.std.specs.Prelude.{◌≡◌}
use Rattle.pg_ast.specs.declared.tree.Desc.{Desc}
use Rattle.pg_lang_valid.specs.Sized.{sized}

-- *Agree*: the second description is the first one, but for its greatest size
abbrev pub Agree : Desc → Desc → Type 0
Agree d e = e ≡ sized e.size d
