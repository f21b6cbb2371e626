-- a description with another greatest size
use Rattle.std.specs.Prelude.{ℕ}
use Rattle.pg_ast.specs.declared.tree.Desc.{Desc}

abbrev pub sized : ℕ → Desc → Desc
sized q d = record d { size = q }
