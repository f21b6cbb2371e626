-- The tokens of an expression.
use Rattle.std.specs.Prelude.{List, [], ◌∷◌, ◌++◌, codes}
use Rattle.pg_lang_token.specs.declared.tok.Tok.{Tok}
use Rattle.pg_lang_token.specs.declared.tok.Tok.TheVariants.{Word, Number, Sign}
use Rattle.pg_lang_token.specs.declared.tok.Sign.TheVariants.{OpenParen, CloseParen, OpenBracket, CloseBracket, Comma, Colon, DoubleEquals, Tilde, Plus, Minus, Star, Ampersand, Bar, Caret, LessThan, DoubleLess, DoubleGreater}
use Rattle.pg_lang_token.specs.declared.tok.Sign.{Sign as Signs}
use Rattle.pg_ast.specs.declared.tree.Op.{Op}
use Rattle.pg_ast.specs.declared.tree.Op.TheVariants.{Add, Sub, Mul, And, Or, Xor, Eq, Lt, Shl, Shr}
use Rattle.pg_ast.specs.declared.tree.Expr.{Expr}
use Rattle.pg_ast.specs.declared.tree.Expr.TheOpen.{Expr-F, Lit, Name, Pc, Mode, Rel, Bound, Load, Not, Bin, Cat, Cut, Ext, Sext, Sel}
use Rattle.pg_ast.specs.declared.tree.Expr.TheFolds.{fold-Expr}

-- the sign of an operator
abbrev pub sign_of : Op → Signs
sign_of Add = Plus
sign_of Sub = Minus
sign_of Mul = Star
sign_of And = Ampersand
sign_of Or = Bar
sign_of Xor = Caret
sign_of Eq = DoubleEquals
sign_of Lt = LessThan
sign_of Shl = DoubleLess
sign_of Shr = DoubleGreater

-- one layer of an expression, the tokens of each part standing in its place
abbrev pub expr_tokens_step : Expr-F (List Tok) → List Tok
expr_tokens_step (Lit v w) = Number v ∷ Sign Colon ∷ Number w ∷ []
expr_tokens_step (Name n) = Word n.bytes ∷ []
expr_tokens_step Pc = Word (codes "pc") ∷ []
expr_tokens_step Mode = Word (codes "mode") ∷ []
expr_tokens_step Rel = Word (codes "rel") ∷ []
expr_tokens_step Bound = Word (codes "bound") ∷ []
expr_tokens_step (Load e) = Word (codes "mem") ∷ Sign OpenBracket ∷ e ++ Sign CloseBracket ∷ []
expr_tokens_step (Not e) = Sign Tilde ∷ e
expr_tokens_step (Bin op x y) = Sign OpenParen ∷ x ++ Sign (sign_of op) ∷ y ++ Sign CloseParen ∷ []
expr_tokens_step (Cat x y) = Word (codes "cat") ∷ Sign OpenParen ∷ x ++ Sign Comma ∷ y ++ Sign CloseParen ∷ []
expr_tokens_step (Cut e h k) =
    Word (codes "cut") ∷ Sign OpenParen ∷ e ++ Sign Comma ∷ Number h ∷ Sign Comma ∷ Number k ∷ Sign CloseParen ∷ []
expr_tokens_step (Ext e n) =
    Word (codes "ext") ∷ Sign OpenParen ∷ e ++ Sign Comma ∷ Number n ∷ Sign CloseParen ∷ []
expr_tokens_step (Sext e n) =
    Word (codes "sext") ∷ Sign OpenParen ∷ e ++ Sign Comma ∷ Number n ∷ Sign CloseParen ∷ []
expr_tokens_step (Sel c x y) =
    Word (codes "sel") ∷ Sign OpenParen ∷ c ++ Sign Comma ∷ x ++ Sign Comma ∷ y ++ Sign CloseParen ∷ []

-- the tokens of an expression
unfoldable pub expr_tokens : Expr → List Tok
expr_tokens = fold-Expr (List Tok) expr_tokens_step
