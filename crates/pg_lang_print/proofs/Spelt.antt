-- The tokens of a description hold what such tokens may.
use Rattle.std.proofs.Common.{◌≡◌, ◌&&◌, Bool, true, false, map, List, [], ◌∷◌, ◌++◌, None, Some, IsTrue, codes, subst, sym, refl}
use Rattle.std.specs.Prelude.{not}
use Rattle.std.specs.List.{list_all, AllByRecursion}
use Rattle.pg_lang_token.specs.Words.{is_word, is_reserved, is_pattern_byte}
use Rattle.pg_lang_token.specs.declared.tok.Tok.{Tok}
use Rattle.pg_lang_token.specs.declared.tok.Tok.TheVariants.{Word, Number, Pattern, Sign}
use Rattle.pg_lang_token.specs.declared.tok.Sign.{Sign as Signs}
use Rattle.pg_lang_token.specs.declared.tok.Sign.TheVariants.{CloseBrace, CloseParen, CloseBracket, Semicolon, Comma, Equals}
use Rattle.pg_ast.specs.declared.name.Name.{Name as Names}
use Rattle.pg_ast.specs.declared.tree.Expr.{Expr}
use Rattle.pg_ast.specs.declared.tree.Expr.TheOpen as Open
use Rattle.pg_ast.specs.declared.tree.Expr.TheFolds.{ind-Expr, map-Expr, fold-roll-Expr}
use Rattle.pg_ast.specs.declared.tree.Stmt.{Stmt}
use Rattle.pg_ast.specs.declared.tree.Stmt.TheOpen as Opens
use Rattle.pg_ast.specs.declared.tree.Stmt.TheFolds.{ind-Stmt, map-Stmt, fold-roll-Stmt}
use Rattle.pg_ast.specs.declared.tree.Instr.{Instr}
use Rattle.pg_ast.specs.declared.tree.Desc.{Desc}
use Rattle.pg_ast.specs.ExprTokens.{sign_of, expr_tokens, expr_tokens_step}
use Rattle.pg_ast.specs.Tokens.{flat, block_tokens, stmt_tokens, stmt_tokens_step, instr_tokens, causes_tokens, head_tokens, tokens_of}
use Rattle.pg_text.specs.Formed.{IsFormed}
use Rattle.pg_lang_print.specs.Numbers.{FitsNumber}

-- a word's bytes make a word, and a pattern's may stand in a pattern
abbrev pub IsSpelt : Tok → Type 0
IsSpelt (Word bytes) = IsTrue (is_word bytes)
IsSpelt (Number value) = Unit {0}
IsSpelt (Pattern bytes) = IsTrue (list_all is_pattern_byte bytes)
IsSpelt (Sign s) = Unit {0}

abbrev pub AllSpelt : List Tok → Type 0
AllSpelt = AllByRecursion IsSpelt

append_spelt : (xs ys : List Tok) → AllSpelt xs → AllSpelt ys → AllSpelt (xs ++ ys)
append_spelt [] ys h k = k
append_spelt (x ∷ xs) ys h k = (h.0, append_spelt xs ys h.1 k)

first : (x y : Bool) → (x && y) ≡ true → x ≡ true
first true y h = refl
first false y h = absurd cc

name_is_word : (n : Names) → is_word n.bytes ≡ true
name_is_word n = first (is_word n.bytes) (not (is_reserved n.bytes)) n.is_name

closed_spelt : (xs : List Tok) → AllSpelt xs → AllSpelt (xs ++ Sign CloseParen ∷ [])
closed_spelt xs h = append_spelt xs (Sign CloseParen ∷ []) h (tt, tt)

next_spelt : (s : Signs) (xs ys : List Tok) → AllSpelt xs → AllSpelt ys → AllSpelt (xs ++ Sign s ∷ ys)
next_spelt s xs ys h k = append_spelt xs (Sign s ∷ ys) h (tt, k)

abbrev IsSpeltExpr : Expr → Type 0
IsSpeltExpr e = AllSpelt (expr_tokens e)

expr_layer : (y : Open.Expr-F ((e : Expr) × IsSpeltExpr e)) → AllSpelt (expr_tokens_step (map-Expr Expr (List Tok) expr_tokens (map-Expr ((e : Expr) × IsSpeltExpr e) Expr (λ p. p.0) y)))
expr_layer (Open.Lit v w) = (tt, (tt, (tt, tt)))
expr_layer (Open.Name n) = (name_is_word n, tt)
expr_layer Open.Pc = (refl, tt)
expr_layer Open.Mode = (refl, tt)
expr_layer Open.Rel = (refl, tt)
expr_layer Open.Bound = (refl, tt)
expr_layer (Open.Load e) = (refl, (tt, append_spelt (expr_tokens e.0) (Sign CloseBracket ∷ []) e.1 (tt, tt)))
expr_layer (Open.Not e) = (tt, e.1)
expr_layer (Open.Bin op x y) =
    (tt, closed_spelt (expr_tokens x.0 ++ Sign (sign_of op) ∷ expr_tokens y.0) (next_spelt (sign_of op) (expr_tokens x.0) (expr_tokens y.0) x.1 y.1))
expr_layer (Open.Cat x y) =
    (refl, (tt, closed_spelt (expr_tokens x.0 ++ Sign Comma ∷ expr_tokens y.0) (next_spelt Comma (expr_tokens x.0) (expr_tokens y.0) x.1 y.1)))
expr_layer (Open.Cut e h k) =
    (refl, (tt, append_spelt (expr_tokens e.0) (Sign Comma ∷ Number h ∷ Sign Comma ∷ Number k ∷ Sign CloseParen ∷ []) e.1 (tt, (tt, (tt, (tt, (tt, tt)))))))
expr_layer (Open.Ext e n) = (refl, (tt, append_spelt (expr_tokens e.0) (Sign Comma ∷ Number n ∷ Sign CloseParen ∷ []) e.1 (tt, (tt, (tt, tt)))))
expr_layer (Open.Sext e n) = (refl, (tt, append_spelt (expr_tokens e.0) (Sign Comma ∷ Number n ∷ Sign CloseParen ∷ []) e.1 (tt, (tt, (tt, tt)))))
expr_layer (Open.Sel c x y) = (
  refl,
  (
    tt,
    closed_spelt (expr_tokens c.0 ++ Sign Comma ∷ expr_tokens x.0 ++ Sign Comma ∷ expr_tokens y.0)
        (next_spelt Comma (expr_tokens c.0 ++ Sign Comma ∷ expr_tokens x.0) (expr_tokens y.0) (next_spelt Comma (expr_tokens c.0) (expr_tokens x.0) c.1 x.1) y.1),
  ),
)

-- the tokens of an expression
pub expr_spelt : (e : Expr) → AllSpelt (expr_tokens e)
unfolding expr_tokens
expr_spelt =
    ind-Expr IsSpeltExpr (λ x y is. subst AllSpelt (sym (fold-roll-Expr (List Tok) expr_tokens_step x)) (subst (λ z. AllSpelt (expr_tokens_step (map-Expr Expr (List Tok) expr_tokens z))) is (expr_layer y)))

abbrev IsSpeltStmt : Stmt → Type 0
IsSpeltStmt s = AllSpelt (stmt_tokens s)

list_spelt : (ps : List ((s : Stmt) × IsSpeltStmt s)) → AllSpelt (flat (map stmt_tokens (map (λ p. p.0) ps)))
list_spelt [] = tt
list_spelt (p ∷ ps) = append_spelt (stmt_tokens p.0) (flat (map stmt_tokens (map (λ q. q.0) ps))) p.1 (list_spelt ps)

block_spelt : (ps : List ((s : Stmt) × IsSpeltStmt s)) → AllSpelt (block_tokens (map stmt_tokens (map (λ p. p.0) ps)))
block_spelt ps = (tt, append_spelt (flat (map stmt_tokens (map (λ p. p.0) ps))) (Sign CloseBrace ∷ []) (list_spelt ps) (tt, tt))

ended_spelt : (e : Expr) → AllSpelt (expr_tokens e ++ Sign Semicolon ∷ [])
ended_spelt e = append_spelt (expr_tokens e) (Sign Semicolon ∷ []) (expr_spelt e) (tt, tt)

stmt_layer : (y : Opens.Stmt-F ((s : Stmt) × IsSpeltStmt s)) → AllSpelt (stmt_tokens_step (map-Stmt Stmt (List Tok) stmt_tokens (map-Stmt ((s : Stmt) × IsSpeltStmt s) Stmt (λ p. p.0) y)))
stmt_layer (Opens.Let n e) = (refl, (name_is_word n, (tt, ended_spelt e)))
stmt_layer (Opens.Store a e) =
    let front : List Tok = expr_tokens a ++ Sign CloseBracket ∷ Sign Equals ∷ expr_tokens e in
    (refl, (tt, append_spelt front (Sign Semicolon ∷ []) (append_spelt (expr_tokens a) (Sign CloseBracket ∷ Sign Equals ∷ expr_tokens e) (expr_spelt a) (tt, (tt, expr_spelt e))) (tt, tt)))
stmt_layer (Opens.Pc e) = (refl, (tt, ended_spelt e))
stmt_layer (Opens.Mode e) = (refl, (tt, ended_spelt e))
stmt_layer (Opens.Rel e) = (refl, (tt, ended_spelt e))
stmt_layer (Opens.Bound e) = (refl, (tt, ended_spelt e))
stmt_layer Opens.Trap = (refl, (tt, tt))
stmt_layer (Opens.If c held None) =
    let block : List Tok = block_tokens (map stmt_tokens (map (λ p. p.0) held)) in
    (refl, append_spelt (expr_tokens c ++ block) [] (append_spelt (expr_tokens c) block (expr_spelt c) (block_spelt held)) tt)
stmt_layer (Opens.If c held (Some other)) =
    let block : List Tok = block_tokens (map stmt_tokens (map (λ p. p.0) held)) in
    let else_block : List Tok = Word (codes "else") ∷ block_tokens (map stmt_tokens (map (λ p. p.0) other)) in
    (refl, append_spelt (expr_tokens c ++ block) else_block (append_spelt (expr_tokens c) block (expr_spelt c) (block_spelt held)) (refl, block_spelt other))

-- the tokens of a statement
pub stmt_spelt : (s : Stmt) → AllSpelt (stmt_tokens s)
unfolding stmt_tokens
stmt_spelt =
    ind-Stmt IsSpeltStmt (λ x y is. subst AllSpelt (sym (fold-roll-Stmt (List Tok) stmt_tokens_step x)) (subst (λ z. AllSpelt (stmt_tokens_step (map-Stmt Stmt (List Tok) stmt_tokens z))) is (stmt_layer y)))

stmts_spelt : (stmts : List Stmt) → AllSpelt (flat (map stmt_tokens stmts))
stmts_spelt [] = tt
stmts_spelt (s ∷ more) = append_spelt (stmt_tokens s) (flat (map stmt_tokens more)) (stmt_spelt s) (stmts_spelt more)

instr_spelt : (i : Instr) → AllSpelt (instr_tokens i)
unfolding instr_tokens
instr_spelt i = (refl, (name_is_word i.name, (i.pattern.is_pattern, (tt, append_spelt (flat (map stmt_tokens i.body)) (Sign CloseBrace ∷ []) (stmts_spelt i.body) (tt, tt)))))

instrs_spelt : (instrs : List Instr) → AllSpelt (flat (map instr_tokens instrs))
instrs_spelt [] = tt
instrs_spelt (i ∷ more) = append_spelt (instr_tokens i) (flat (map instr_tokens more)) (instr_spelt i) (instrs_spelt more)

causes_spelt : (causes : Bool) → AllSpelt (causes_tokens causes)
causes_spelt true = (refl, (refl, (tt, tt)))
causes_spelt false = tt

head_spelt : (d : Desc) → AllSpelt (head_tokens d)
unfolding head_tokens
head_spelt d =
    (refl, (tt, (refl, (tt, (tt, (refl, (tt, (tt, (refl, (tt, (tt, append_spelt (causes_tokens d.causes) (Sign CloseBrace ∷ []) (causes_spelt d.causes) (tt, tt))))))))))))

-- the tokens of a description
pub tokens_spelt : (d : Desc) → AllSpelt (tokens_of d)
unfolding tokens_of
tokens_spelt d = append_spelt (head_tokens d) (flat (map instr_tokens d.instrs)) (head_spelt d) (instrs_spelt d.instrs)

token_formed : (t : Tok) → IsSpelt t → FitsNumber t → IsFormed t
token_formed (Word bytes) h f = h
token_formed (Number value) h f = f
token_formed (Pattern bytes) h f = h
token_formed (Sign s) h f = tt

-- where their numbers fit, they are formed
pub all_formed : (ts : List Tok) → AllSpelt ts → AllByRecursion FitsNumber ts → AllByRecursion IsFormed ts
all_formed [] h f = tt
all_formed (t ∷ ts) h f = (token_formed t h.0 f.0, all_formed ts h.1 f.1)
