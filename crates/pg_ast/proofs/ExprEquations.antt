-- The equations of the folds over an expression, one for each of its forms.
use Rattle.std.proofs.Common.{◌≡◌, ℕ, ◌+◌, max, List, [], ◌∷◌, ◌++◌, codes, ap, sym, ◌∙◌}
use Rattle.pg_lang_token.specs.declared.tok.Tok.{Tok}
use Rattle.pg_lang_token.specs.declared.tok.Tok.TheVariants.{Word, Number, Sign}
use Rattle.pg_lang_token.specs.declared.tok.Sign.TheVariants.{OpenParen, CloseParen, OpenBracket, CloseBracket, Comma, Colon, Tilde}
use Rattle.pg_ast.specs.declared.name.Name.{Name as Names}
use Rattle.pg_ast.specs.declared.tree.Op.{Op}
use Rattle.pg_ast.specs.declared.tree.Expr.{Expr}
use Rattle.pg_ast.specs.declared.tree.Expr.TheVariants.{Lit, Name, Pc, Mode, Rel, Bound, Load, Not, Bin, Cat, Cut, Ext, Sext, Sel, rolls-Lit, rolls-Name, rolls-Pc, rolls-Mode, rolls-Rel, rolls-Bound, rolls-Load, rolls-Not, rolls-Bin, rolls-Cat, rolls-Cut, rolls-Ext, rolls-Sext, rolls-Sel}
use Rattle.pg_ast.specs.declared.tree.Expr.TheOpen as Open
use Rattle.pg_ast.specs.declared.tree.Expr.TheFolds.{fold-roll-Expr}
use Rattle.pg_ast.specs.ExprTokens.{expr_tokens, expr_tokens_step, sign_of}
use Rattle.pg_ast.specs.Levels.{depth_of, depth_step}

pub expr_tokens-lit : (v w : ℕ) → expr_tokens (Lit v w) ≡ Number v ∷ Sign Colon ∷ Number w ∷ []
unfolding expr_tokens
expr_tokens-lit v w = ap expr_tokens (sym (rolls-Lit v w)) ∙ fold-roll-Expr (List Tok) expr_tokens_step (Open.Lit v w)

pub expr_tokens-name : (n : Names) → expr_tokens (Name n) ≡ Word n.bytes ∷ []
unfolding expr_tokens
expr_tokens-name n = ap expr_tokens (sym (rolls-Name n)) ∙ fold-roll-Expr (List Tok) expr_tokens_step (Open.Name n)

pub expr_tokens-pc : expr_tokens Pc ≡ Word (codes "pc") ∷ []
unfolding expr_tokens
expr_tokens-pc = ap expr_tokens (sym rolls-Pc) ∙ fold-roll-Expr (List Tok) expr_tokens_step Open.Pc

pub expr_tokens-mode : expr_tokens Mode ≡ Word (codes "mode") ∷ []
unfolding expr_tokens
expr_tokens-mode = ap expr_tokens (sym rolls-Mode) ∙ fold-roll-Expr (List Tok) expr_tokens_step Open.Mode

pub expr_tokens-rel : expr_tokens Rel ≡ Word (codes "rel") ∷ []
unfolding expr_tokens
expr_tokens-rel = ap expr_tokens (sym rolls-Rel) ∙ fold-roll-Expr (List Tok) expr_tokens_step Open.Rel

pub expr_tokens-bound : expr_tokens Bound ≡ Word (codes "bound") ∷ []
unfolding expr_tokens
expr_tokens-bound = ap expr_tokens (sym rolls-Bound) ∙ fold-roll-Expr (List Tok) expr_tokens_step Open.Bound

pub expr_tokens-load : (e : Expr) → expr_tokens (Load e) ≡ Word (codes "mem") ∷ Sign OpenBracket ∷ expr_tokens e ++ Sign CloseBracket ∷ []
unfolding expr_tokens
expr_tokens-load e = ap expr_tokens (sym (rolls-Load e)) ∙ fold-roll-Expr (List Tok) expr_tokens_step (Open.Load e)

pub expr_tokens-not : (e : Expr) → expr_tokens (Not e) ≡ Sign Tilde ∷ expr_tokens e
unfolding expr_tokens
expr_tokens-not e = ap expr_tokens (sym (rolls-Not e)) ∙ fold-roll-Expr (List Tok) expr_tokens_step (Open.Not e)

pub expr_tokens-bin : (op : Op) (x y : Expr) → expr_tokens (Bin op x y) ≡ Sign OpenParen ∷ expr_tokens x ++ Sign (sign_of op) ∷ expr_tokens y ++ Sign CloseParen ∷ []
unfolding expr_tokens
expr_tokens-bin op x y = ap expr_tokens (sym (rolls-Bin op x y)) ∙ fold-roll-Expr (List Tok) expr_tokens_step (Open.Bin op x y)

pub expr_tokens-cat : (x y : Expr) → expr_tokens (Cat x y) ≡ Word (codes "cat") ∷ Sign OpenParen ∷ expr_tokens x ++ Sign Comma ∷ expr_tokens y ++ Sign CloseParen ∷ []
unfolding expr_tokens
expr_tokens-cat x y = ap expr_tokens (sym (rolls-Cat x y)) ∙ fold-roll-Expr (List Tok) expr_tokens_step (Open.Cat x y)

pub expr_tokens-cut : (e : Expr) (h k : ℕ) → expr_tokens (Cut e h k) ≡ Word (codes "cut") ∷ Sign OpenParen ∷ expr_tokens e ++ Sign Comma ∷ Number h ∷ Sign Comma ∷ Number k ∷ Sign CloseParen ∷ []
unfolding expr_tokens
expr_tokens-cut e h k = ap expr_tokens (sym (rolls-Cut e h k)) ∙ fold-roll-Expr (List Tok) expr_tokens_step (Open.Cut e h k)

pub expr_tokens-ext : (e : Expr) (n : ℕ) → expr_tokens (Ext e n) ≡ Word (codes "ext") ∷ Sign OpenParen ∷ expr_tokens e ++ Sign Comma ∷ Number n ∷ Sign CloseParen ∷ []
unfolding expr_tokens
expr_tokens-ext e n = ap expr_tokens (sym (rolls-Ext e n)) ∙ fold-roll-Expr (List Tok) expr_tokens_step (Open.Ext e n)

pub expr_tokens-sext : (e : Expr) (n : ℕ) → expr_tokens (Sext e n) ≡ Word (codes "sext") ∷ Sign OpenParen ∷ expr_tokens e ++ Sign Comma ∷ Number n ∷ Sign CloseParen ∷ []
unfolding expr_tokens
expr_tokens-sext e n = ap expr_tokens (sym (rolls-Sext e n)) ∙ fold-roll-Expr (List Tok) expr_tokens_step (Open.Sext e n)

pub expr_tokens-sel : (c x y : Expr) → expr_tokens (Sel c x y) ≡ Word (codes "sel") ∷ Sign OpenParen ∷ expr_tokens c ++ Sign Comma ∷ expr_tokens x ++ Sign Comma ∷ expr_tokens y ++ Sign CloseParen ∷ []
unfolding expr_tokens
expr_tokens-sel c x y = ap expr_tokens (sym (rolls-Sel c x y)) ∙ fold-roll-Expr (List Tok) expr_tokens_step (Open.Sel c x y)

pub depth_of-lit : (v w : ℕ) → depth_of (Lit v w) ≡ 1
unfolding depth_of
depth_of-lit v w = ap depth_of (sym (rolls-Lit v w)) ∙ fold-roll-Expr ℕ depth_step (Open.Lit v w)

pub depth_of-name : (n : Names) → depth_of (Name n) ≡ 1
unfolding depth_of
depth_of-name n = ap depth_of (sym (rolls-Name n)) ∙ fold-roll-Expr ℕ depth_step (Open.Name n)

pub depth_of-pc : depth_of Pc ≡ 1
unfolding depth_of
depth_of-pc = ap depth_of (sym rolls-Pc) ∙ fold-roll-Expr ℕ depth_step Open.Pc

pub depth_of-mode : depth_of Mode ≡ 1
unfolding depth_of
depth_of-mode = ap depth_of (sym rolls-Mode) ∙ fold-roll-Expr ℕ depth_step Open.Mode

pub depth_of-rel : depth_of Rel ≡ 1
unfolding depth_of
depth_of-rel = ap depth_of (sym rolls-Rel) ∙ fold-roll-Expr ℕ depth_step Open.Rel

pub depth_of-bound : depth_of Bound ≡ 1
unfolding depth_of
depth_of-bound = ap depth_of (sym rolls-Bound) ∙ fold-roll-Expr ℕ depth_step Open.Bound

pub depth_of-load : (e : Expr) → depth_of (Load e) ≡ 1 + depth_of e
unfolding depth_of
depth_of-load e = ap depth_of (sym (rolls-Load e)) ∙ fold-roll-Expr ℕ depth_step (Open.Load e)

pub depth_of-not : (e : Expr) → depth_of (Not e) ≡ 1 + depth_of e
unfolding depth_of
depth_of-not e = ap depth_of (sym (rolls-Not e)) ∙ fold-roll-Expr ℕ depth_step (Open.Not e)

pub depth_of-bin : (op : Op) (x y : Expr) → depth_of (Bin op x y) ≡ 1 + max (depth_of x) (depth_of y)
unfolding depth_of
depth_of-bin op x y = ap depth_of (sym (rolls-Bin op x y)) ∙ fold-roll-Expr ℕ depth_step (Open.Bin op x y)

pub depth_of-cat : (x y : Expr) → depth_of (Cat x y) ≡ 1 + max (depth_of x) (depth_of y)
unfolding depth_of
depth_of-cat x y = ap depth_of (sym (rolls-Cat x y)) ∙ fold-roll-Expr ℕ depth_step (Open.Cat x y)

pub depth_of-cut : (e : Expr) (h k : ℕ) → depth_of (Cut e h k) ≡ 1 + depth_of e
unfolding depth_of
depth_of-cut e h k = ap depth_of (sym (rolls-Cut e h k)) ∙ fold-roll-Expr ℕ depth_step (Open.Cut e h k)

pub depth_of-ext : (e : Expr) (n : ℕ) → depth_of (Ext e n) ≡ 1 + depth_of e
unfolding depth_of
depth_of-ext e n = ap depth_of (sym (rolls-Ext e n)) ∙ fold-roll-Expr ℕ depth_step (Open.Ext e n)

pub depth_of-sext : (e : Expr) (n : ℕ) → depth_of (Sext e n) ≡ 1 + depth_of e
unfolding depth_of
depth_of-sext e n = ap depth_of (sym (rolls-Sext e n)) ∙ fold-roll-Expr ℕ depth_step (Open.Sext e n)

pub depth_of-sel : (c x y : Expr) → depth_of (Sel c x y) ≡ 1 + max (depth_of c) (max (depth_of x) (depth_of y))
unfolding depth_of
depth_of-sel c x y = ap depth_of (sym (rolls-Sel c x y)) ∙ fold-roll-Expr ℕ depth_step (Open.Sel c x y)

pub ruleset expr_tokens_rules = (expr_tokens-lit, expr_tokens-name, expr_tokens-pc, expr_tokens-mode, expr_tokens-rel, expr_tokens-bound, expr_tokens-load, expr_tokens-not, expr_tokens-bin, expr_tokens-cat, expr_tokens-cut, expr_tokens-ext, expr_tokens-sext, expr_tokens-sel)

pub ruleset depth_of_rules = (depth_of-lit, depth_of-name, depth_of-pc, depth_of-mode, depth_of-rel, depth_of-bound, depth_of-load, depth_of-not, depth_of-bin, depth_of-cat, depth_of-cut, depth_of-ext, depth_of-sext, depth_of-sel)
