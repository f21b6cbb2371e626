-- Names are known by their bytes.
use Rattle.std.proofs.Common.{◌≡◌, [], ◌∷◌, Some, IsTrue, refl, ap, sym, ◌∙◌}
use Rattle.pg_lang_token.specs.Words.{is_name}
use Rattle.pg_ast.specs.declared.name.Name.{Name as Names}
use Rattle.pg_ast.specs.declared.tree.Expr.TheVariants.{Name}
use Rattle.pg_ast.specs.Reading.{name_of}
use Rattle.pg_ast.proofs.ExprReads.{name_of-bytes}
use Rattle.pg_cmd_gen.specs.declared.bodies.Field.{Field}
use Rattle.pg_cmd_gen.specs.declared.bodies.Field.TheVariants.{X, Y, Z}
use Rattle.pg_cmd_gen.specs.Letters.{letter_of, field_by}

pub name-by_bytes : (n m : Names) → n.bytes ≡ m.bytes → n ≡ m
name-by_bytes n m same =
    let found : Some n ≡ Some m = sym (name_of-bytes n) ∙ ap name_of same ∙ name_of-bytes m in
    cc

pub letter-is_name : (field : Field) → IsTrue (is_name (letter_of field ∷ []))
letter-is_name X = refl
letter-is_name Y = refl
letter-is_name Z = refl

pub field_by-bytes : (field : Field) (n : Names) → n.bytes ≡ letter_of field ∷ [] → Name n ≡ field_by field
field_by-bytes X n same = ap Name (name-by_bytes n _ same)
field_by-bytes Y n same = ap Name (name-by_bytes n _ same)
field_by-bytes Z n same = ap Name (name-by_bytes n _ same)
