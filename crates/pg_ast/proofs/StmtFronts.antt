-- The tokens of a statement in front of others, one equation for each form: in right order, as a reader meets them.
use Rattle.std.proofs.Common.{◌≡◌, ℕ, List, [], ◌∷◌, ◌++◌, map, None, Some, false, bytes_eq, codes, refl, ap, sym, ◌∙◌, subst}
use Rattle.std.proofs.lemmas.List.{append_assoc}
use Rattle.pg_lang_token.specs.declared.tok.Tok.{Tok}
use Rattle.pg_lang_token.specs.declared.tok.Tok.TheVariants.{Word, Sign}
use Rattle.pg_lang_token.specs.declared.tok.Sign.TheVariants.{OpenBrace, CloseBrace, OpenBracket, CloseBracket, Semicolon, Equals}
use Rattle.pg_ast.specs.declared.name.Name.{Name as Names}
use Rattle.pg_ast.specs.declared.tree.Expr.{Expr}
use Rattle.pg_ast.specs.declared.tree.Stmt.{Stmt}
use Rattle.pg_ast.specs.declared.tree.Stmt.TheVariants.{Let, Store, Pc, Mode, Rel, Bound, Trap, If, rolls-Let, rolls-Store, rolls-Pc, rolls-Mode, rolls-Rel, rolls-Bound, rolls-Trap, rolls-If}
use Rattle.pg_ast.specs.declared.tree.Stmt.TheOpen as Open
use Rattle.pg_ast.specs.declared.tree.Stmt.TheFolds.{ind-Stmt}
use Rattle.pg_ast.specs.declared.tree.Stmt.TheViews.{roll-Stmt}
use Rattle.pg_ast.specs.ExprTokens.{expr_tokens}
use Rattle.pg_ast.specs.Tokens.{stmt_tokens, flat, block_tokens, else_tokens}
use Rattle.pg_ast.proofs.StmtEquations as equations

gather : (a b c d : List Tok) → a ++ b ++ c ++ d ≡ a ++ (b ++ (c ++ d))
gather a b c d = simp append_assoc

pub block_front : (stmts : List (List Tok)) (rest : List Tok) → block_tokens stmts ++ rest ≡ Sign OpenBrace ∷ (flat stmts ++ (Sign CloseBrace ∷ rest))
block_front stmts rest = ap (λ z. Sign OpenBrace ∷ z) (append_assoc (flat stmts) (Sign CloseBrace ∷ []) rest)

pub stmt_front-let : (n : Names) (e : Expr) (rest : List Tok) → stmt_tokens (Let n e) ++ rest ≡ Word (codes "let") ∷ Word n.bytes ∷ Sign Equals ∷ (expr_tokens e ++ (Sign Semicolon ∷ rest))
stmt_front-let n e rest = rw (equations.stmt_tokens-let n e) (simp append_assoc)

pub stmt_front-store : (a e : Expr) (rest : List Tok) → stmt_tokens (Store a e) ++ rest ≡ Word (codes "mem") ∷ Sign OpenBracket ∷ (expr_tokens a ++ (Sign CloseBracket ∷ Sign Equals ∷ (expr_tokens e ++ (Sign Semicolon ∷ rest))))
stmt_front-store a e rest = rw (equations.stmt_tokens-store a e) (simp append_assoc)

pub stmt_front-pc : (e : Expr) (rest : List Tok) → stmt_tokens (Pc e) ++ rest ≡ Word (codes "pc") ∷ Sign Equals ∷ (expr_tokens e ++ (Sign Semicolon ∷ rest))
stmt_front-pc e rest = rw (equations.stmt_tokens-pc e) (simp append_assoc)

pub stmt_front-mode : (e : Expr) (rest : List Tok) → stmt_tokens (Mode e) ++ rest ≡ Word (codes "mode") ∷ Sign Equals ∷ (expr_tokens e ++ (Sign Semicolon ∷ rest))
stmt_front-mode e rest = rw (equations.stmt_tokens-mode e) (simp append_assoc)

pub stmt_front-rel : (e : Expr) (rest : List Tok) → stmt_tokens (Rel e) ++ rest ≡ Word (codes "rel") ∷ Sign Equals ∷ (expr_tokens e ++ (Sign Semicolon ∷ rest))
stmt_front-rel e rest = rw (equations.stmt_tokens-rel e) (simp append_assoc)

pub stmt_front-bound : (e : Expr) (rest : List Tok) → stmt_tokens (Bound e) ++ rest ≡ Word (codes "bound") ∷ Sign Equals ∷ (expr_tokens e ++ (Sign Semicolon ∷ rest))
stmt_front-bound e rest = rw (equations.stmt_tokens-bound e) (simp append_assoc)

pub stmt_front-trap : (rest : List Tok) → stmt_tokens Trap ++ rest ≡ Word (codes "trap") ∷ Sign Semicolon ∷ rest
stmt_front-trap rest = rw equations.stmt_tokens-trap refl

pub stmt_front-if : (c : Expr) (held : List Stmt) (rest : List Tok) → stmt_tokens (If c held None) ++ rest ≡ Word (codes "if") ∷ (expr_tokens c ++ (Sign OpenBrace ∷ (flat (map stmt_tokens held) ++ (Sign CloseBrace ∷ rest))))
stmt_front-if c held rest = rw (equations.stmt_tokens-if c held None) (simp append_assoc)

pub stmt_front-if_else : (c : Expr) (held other : List Stmt) (rest : List Tok) → stmt_tokens (If c held (Some other)) ++ rest ≡ Word (codes "if") ∷ (expr_tokens c ++ (Sign OpenBrace ∷ (flat (map stmt_tokens held) ++ (Sign CloseBrace ∷ Word (codes "else") ∷ Sign OpenBrace ∷ (flat (map stmt_tokens other) ++ (Sign CloseBrace ∷ rest))))))
stmt_front-if_else c held other rest =
    rw (equations.stmt_tokens-if c held (Some other))
    (ap (λ z. Word (codes "if") ∷ z)
    (gather (expr_tokens c) (block_tokens (map stmt_tokens held)) (else_tokens (Some (map stmt_tokens other))) rest
    ∙ ap (λ z. expr_tokens c ++ z) (block_front (map stmt_tokens held) (else_tokens (Some (map stmt_tokens other)) ++ rest)
    ∙ ap (λ z. Sign OpenBrace ∷ (flat (map stmt_tokens held) ++ (Sign CloseBrace ∷ Word (codes "else") ∷ z))) (block_front (map stmt_tokens other) rest))))

-- a statement begins with a word, which is not else
abbrev pub Begins : Stmt → Type 0
Begins s = (w : List ℕ) × (ts : List Tok) × (stmt_tokens s ≡ Word w ∷ ts) × (bytes_eq w (codes "else") ≡ false)

begins-layer : (x : Open.Stmt-F Stmt) → Begins (roll-Stmt x)
begins-layer (Open.Let n e) = subst Begins (sym (rolls-Let n e)) (_, _, equations.stmt_tokens-let n e, refl)
begins-layer (Open.Store a e) = subst Begins (sym (rolls-Store a e)) (_, _, equations.stmt_tokens-store a e, refl)
begins-layer (Open.Pc e) = subst Begins (sym (rolls-Pc e)) (_, _, equations.stmt_tokens-pc e, refl)
begins-layer (Open.Mode e) = subst Begins (sym (rolls-Mode e)) (_, _, equations.stmt_tokens-mode e, refl)
begins-layer (Open.Rel e) = subst Begins (sym (rolls-Rel e)) (_, _, equations.stmt_tokens-rel e, refl)
begins-layer (Open.Bound e) = subst Begins (sym (rolls-Bound e)) (_, _, equations.stmt_tokens-bound e, refl)
begins-layer Open.Trap = subst Begins (sym rolls-Trap) (_, _, equations.stmt_tokens-trap, refl)
begins-layer (Open.If c held other) = subst Begins (sym (rolls-If c held other)) (_, _, equations.stmt_tokens-if c held other, refl)

pub stmt_begins : (s : Stmt) → Begins s
stmt_begins = ind-Stmt Begins (λ x y is. begins-layer x)
