-- The tokens of an expression in front of others, one equation for each form: in right order, as a reader meets them.
use Rattle.std.proofs.Common.{◌≡◌, ℕ, List, ◌∷◌, ◌++◌, codes, refl}
use Rattle.std.proofs.lemmas.List.{append_assoc}
use Rattle.pg_lang_token.specs.declared.tok.Tok.{Tok}
use Rattle.pg_lang_token.specs.declared.tok.Tok.TheVariants.{Word, Number, Sign}
use Rattle.pg_lang_token.specs.declared.tok.Sign.TheVariants.{OpenParen, CloseParen, OpenBracket, CloseBracket, Comma, Colon, Tilde}
use Rattle.pg_ast.specs.declared.name.Name.{Name as Names}
use Rattle.pg_ast.specs.declared.tree.Op.{Op}
use Rattle.pg_ast.specs.declared.tree.Expr.{Expr}
use Rattle.pg_ast.specs.declared.tree.Expr.TheVariants.{Lit, Name, Pc, Mode, Rel, Bound, Load, Not, Bin, Cat, Cut, Ext, Sext, Sel}
use Rattle.pg_ast.specs.ExprTokens.{expr_tokens, sign_of}
use Rattle.pg_ast.proofs.ExprEquations as equations

pub expr_front-lit : (v w : ℕ) (rest : List Tok) → expr_tokens (Lit v w) ++ rest ≡ Number v ∷ Sign Colon ∷ Number w ∷ rest
expr_front-lit v w rest = rw (equations.expr_tokens-lit v w) refl

pub expr_front-name : (n : Names) (rest : List Tok) → expr_tokens (Name n) ++ rest ≡ Word n.bytes ∷ rest
expr_front-name n rest = rw (equations.expr_tokens-name n) refl

pub expr_front-pc : (rest : List Tok) → expr_tokens Pc ++ rest ≡ Word (codes "pc") ∷ rest
expr_front-pc rest = rw equations.expr_tokens-pc refl

pub expr_front-mode : (rest : List Tok) → expr_tokens Mode ++ rest ≡ Word (codes "mode") ∷ rest
expr_front-mode rest = rw equations.expr_tokens-mode refl

pub expr_front-rel : (rest : List Tok) → expr_tokens Rel ++ rest ≡ Word (codes "rel") ∷ rest
expr_front-rel rest = rw equations.expr_tokens-rel refl

pub expr_front-bound : (rest : List Tok) → expr_tokens Bound ++ rest ≡ Word (codes "bound") ∷ rest
expr_front-bound rest = rw equations.expr_tokens-bound refl

pub expr_front-load : (e : Expr) (rest : List Tok) → expr_tokens (Load e) ++ rest ≡ Word (codes "mem") ∷ Sign OpenBracket ∷ (expr_tokens e ++ (Sign CloseBracket ∷ rest))
expr_front-load e rest = rw (equations.expr_tokens-load e) (simp append_assoc)

pub expr_front-not : (e : Expr) (rest : List Tok) → expr_tokens (Not e) ++ rest ≡ Sign Tilde ∷ (expr_tokens e ++ rest)
expr_front-not e rest = rw (equations.expr_tokens-not e) refl

pub expr_front-bin : (op : Op) (x y : Expr) (rest : List Tok) → expr_tokens (Bin op x y) ++ rest ≡ Sign OpenParen ∷ (expr_tokens x ++ (Sign (sign_of op) ∷ (expr_tokens y ++ (Sign CloseParen ∷ rest))))
expr_front-bin op x y rest = rw (equations.expr_tokens-bin op x y) (simp append_assoc)

pub expr_front-cat : (x y : Expr) (rest : List Tok) → expr_tokens (Cat x y) ++ rest ≡ Word (codes "cat") ∷ Sign OpenParen ∷ (expr_tokens x ++ (Sign Comma ∷ (expr_tokens y ++ (Sign CloseParen ∷ rest))))
expr_front-cat x y rest = rw (equations.expr_tokens-cat x y) (simp append_assoc)

pub expr_front-cut : (e : Expr) (h k : ℕ) (rest : List Tok) → expr_tokens (Cut e h k) ++ rest ≡ Word (codes "cut") ∷ Sign OpenParen ∷ (expr_tokens e ++ (Sign Comma ∷ Number h ∷ Sign Comma ∷ Number k ∷ Sign CloseParen ∷ rest))
expr_front-cut e h k rest = rw (equations.expr_tokens-cut e h k) (simp append_assoc)

pub expr_front-ext : (e : Expr) (n : ℕ) (rest : List Tok) → expr_tokens (Ext e n) ++ rest ≡ Word (codes "ext") ∷ Sign OpenParen ∷ (expr_tokens e ++ (Sign Comma ∷ Number n ∷ Sign CloseParen ∷ rest))
expr_front-ext e n rest = rw (equations.expr_tokens-ext e n) (simp append_assoc)

pub expr_front-sext : (e : Expr) (n : ℕ) (rest : List Tok) → expr_tokens (Sext e n) ++ rest ≡ Word (codes "sext") ∷ Sign OpenParen ∷ (expr_tokens e ++ (Sign Comma ∷ Number n ∷ Sign CloseParen ∷ rest))
expr_front-sext e n rest = rw (equations.expr_tokens-sext e n) (simp append_assoc)

pub expr_front-sel : (c x y : Expr) (rest : List Tok) → expr_tokens (Sel c x y) ++ rest ≡ Word (codes "sel") ∷ Sign OpenParen ∷ (expr_tokens c ++ (Sign Comma ∷ (expr_tokens x ++ (Sign Comma ∷ (expr_tokens y ++ (Sign CloseParen ∷ rest))))))
expr_front-sel c x y rest = rw (equations.expr_tokens-sel c x y) (simp append_assoc)
