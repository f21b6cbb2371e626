-- The fields of patterns, as the code names them.
use Rattle.std.specs.Prelude.{ℕ}
use Rattle.pg_ast.specs.declared.tree.Expr.{Expr}
use Rattle.pg_cmd_gen.specs.declared.bodies.Field.{Field}
use Rattle.pg_cmd_gen.specs.declared.bodies.Field.TheVariants.{X, Y, Z}
use Rattle.pg_cmd_gen.specs.Bodies.{field_x, field_y, field_z}

abbrev pub letter_of : Field → ℕ
letter_of X = 120
letter_of Y = 121
letter_of Z = 122

abbrev pub field_by : Field → Expr
field_by X = field_x
field_by Y = field_y
field_by Z = field_z
