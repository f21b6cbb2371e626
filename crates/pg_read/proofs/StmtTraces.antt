-- The same of statements, blocks, instructions and descriptions.
use Rattle.std.proofs.Common.{◌≡◌, ℕ, suc, Bool, true, false, map, List, [], ◌∷◌, ◌++◌, Option, None, Some, ap, sym, ◌∙◌, subst, refl}
use Rattle.std.proofs.lemmas.List.{append_assoc}
use Rattle.pg_lang_token.specs.declared.tok.Tok.{Tok}
use Rattle.pg_lang_token.specs.declared.tok.Tok.TheVariants.{Sign}
use Rattle.pg_lang_token.specs.declared.tok.Sign.TheVariants.{CloseBrace}
use Rattle.pg_ast.specs.declared.name.Name.{Name as Names}
use Rattle.pg_ast.specs.declared.tree.Expr.{Expr}
use Rattle.pg_ast.specs.declared.tree.Stmt.{Stmt}
use Rattle.pg_ast.specs.declared.tree.Stmt.TheVariants.{Let, Store, Pc, Mode, Rel, Bound, Trap, If, rolls-Let, rolls-Store, rolls-Pc, rolls-Mode, rolls-Rel, rolls-Bound, rolls-Trap, rolls-If}
use Rattle.pg_ast.specs.declared.tree.Stmt.TheOpen as Open
use Rattle.pg_ast.specs.declared.tree.Stmt.TheFolds.{ind-Stmt, map-Stmt}
use Rattle.pg_ast.specs.declared.tree.Stmt.TheViews.{roll-Stmt}
use Rattle.pg_ast.specs.Tokens.{stmt_tokens, flat, block_tokens, head_tokens}
use Rattle.pg_ast.proofs.StmtFronts as fronts
use Rattle.pg_read.specs.declared.goals.Goal.{Goal}
use Rattle.pg_read.specs.declared.goals.Goal.TheVariants as goal
use Rattle.pg_read.specs.Keywords.{stmt_word}
use Rattle.pg_read.specs.Marks.{Mark, Opens, Plain, expr_marks, stmt_marks, marks_within, block_marks, else_marks, body_marks}
use Rattle.pg_read.specs.Fronts.{WideInstr, Wide, wide_instr_tokens, wide_tokens, instrs_marks, wide_marks}
use Rattle.pg_read.specs.Goals.{met, taken, desc_goals}
use Rattle.pg_read.proofs.MarkEquations as marks
use Rattle.pg_read.proofs.Traces.{with_mark, with_marks, trace, with_marks-append, trace_expr}

-- no else comes first
abbrev ElseFree : List Tok → Type 0
ElseFree ts = (n : ℕ) (gs : List Goal) → trace (goal.AfterIf n ∷ gs) ts ≡ trace (goal.Stmts n ∷ gs) ts

-- a statement met the goal, and the other statements are left
abbrev IsTraced : Stmt → Type 0
IsTraced s = (n : ℕ) (gs : List Goal) (ts : List Tok) → ElseFree ts → trace (goal.Stmts n ∷ gs) (stmt_tokens s ++ ts) ≡ with_marks (stmt_marks s n) (trace (goal.Stmts n ∷ gs) ts)

-- the statements of a block
abbrev AreTraced : List Stmt → Type 0
AreTraced ss = (n : ℕ) (gs : List Goal) (ts : List Tok) →
    trace (goal.Stmts n ∷ gs) (flat (map stmt_tokens ss) ++ (Sign CloseBrace ∷ ts)) ≡ with_marks (marks_within n (map stmt_marks ss)) (with_mark Plain (trace gs ts))

-- behind a statement of a block comes no else
else_free : (more : List Stmt) (ts : List Tok) → ElseFree (flat (map stmt_tokens more) ++ (Sign CloseBrace ∷ ts))
unfolding taken met
else_free [] ts n gs = refl
else_free (s ∷ more) ts n gs = let begun = fronts.stmt_begins s in rw (begun.2) (simp (begun.3))

trace-let : (x : Names) (e : Expr) → IsTraced (Let x e)
unfolding taken met stmt_word
trace-let x e n gs ts free = rw (fronts.stmt_front-let x e ts, marks.stmt_marks-let x e n) (simp (trace_expr, with_marks-append, x.is_name))

trace-store : (a e : Expr) → IsTraced (Store a e)
unfolding taken met stmt_word
trace-store a e n gs ts free = rw (fronts.stmt_front-store a e ts, marks.stmt_marks-store a e n) (simp (trace_expr, with_marks-append))

trace-pc : (e : Expr) → IsTraced (Pc e)
unfolding taken met stmt_word
trace-pc e n gs ts free = rw (fronts.stmt_front-pc e ts, marks.stmt_marks-pc e n) (simp (trace_expr, with_marks-append))

trace-mode : (e : Expr) → IsTraced (Mode e)
unfolding taken met stmt_word
trace-mode e n gs ts free = rw (fronts.stmt_front-mode e ts, marks.stmt_marks-mode e n) (simp (trace_expr, with_marks-append))

trace-rel : (e : Expr) → IsTraced (Rel e)
unfolding taken met stmt_word
trace-rel e n gs ts free = rw (fronts.stmt_front-rel e ts, marks.stmt_marks-rel e n) (simp (trace_expr, with_marks-append))

trace-bound : (e : Expr) → IsTraced (Bound e)
unfolding taken met stmt_word
trace-bound e n gs ts free = rw (fronts.stmt_front-bound e ts, marks.stmt_marks-bound e n) (simp (trace_expr, with_marks-append))

trace-trap : IsTraced Trap
unfolding taken met stmt_word
trace-trap n gs ts free = rw (fronts.stmt_front-trap ts, marks.stmt_marks-trap n) refl

-- the marks of an if with an else
block-first : (n : ℕ) (stmts : List (ℕ → List Mark)) (z : Option (List Mark × List Goal)) →
    with_marks (block_marks n stmts) z ≡ with_mark (Opens n) (with_marks (marks_within (suc n) stmts) (with_mark Plain z))
block-first n stmts z = ap (with_mark (Opens n)) (with_marks-append (marks_within (suc n) stmts) (Plain ∷ []) z)

gather : (a b c : List Mark) (z : Option (List Mark × List Goal)) → with_marks (Plain ∷ a ++ b ++ c) z ≡ with_mark Plain (with_marks a (with_marks b (with_marks c z)))
gather a b c z = ap (with_mark Plain) (with_marks-append (a ++ b) c z ∙ with_marks-append a b (with_marks c z))

if_marks : (a : List Mark) (n : ℕ) (held other : List (ℕ → List Mark)) (z : Option (List Mark × List Goal)) →
    with_marks (Plain ∷ a ++ block_marks n held ++ else_marks n (Some other)) z ≡
    with_mark Plain (with_marks a (with_mark (Opens n) (with_marks (marks_within (suc n) held) (with_mark Plain (with_mark Plain (with_mark (Opens n) (with_marks (marks_within (suc n) other) (with_mark Plain z))))))))
if_marks a n held other z =
    gather a (block_marks n held) (else_marks n (Some other)) z
    ∙ ap (λ y. with_mark Plain (with_marks a y)) (block-first n held (with_marks (else_marks n (Some other)) z)
    ∙ ap (λ y. with_mark (Opens n) (with_marks (marks_within (suc n) held) (with_mark Plain (with_mark Plain y)))) (block-first n other z))

trace-if : (c : Expr) (held : List Stmt) → AreTraced held → IsTraced (If c held None)
unfolding taken met stmt_word
trace-if c held hheld n gs ts free =
    rw (fronts.stmt_front-if c held ts, marks.stmt_marks-if c held None n) (simp (trace_expr, hheld, with_marks-append, free))

trace-if_else : (c : Expr) (held other : List Stmt) → AreTraced held → AreTraced other → IsTraced (If c held (Some other))
unfolding taken met stmt_word
trace-if_else c held other hheld hother n gs ts free =
    rw (
      fronts.stmt_front-if_else c held other ts,
      marks.stmt_marks-if c held (Some other) n,
      if_marks (expr_marks c 1) n (map stmt_marks held) (map stmt_marks other) (trace (goal.Stmts n ∷ gs) ts),
    ) (simp (trace_expr, hheld, hother))

stmts-traced : (stmts : List ((s : Stmt) × IsTraced s)) → AreTraced (map (λ p. p.0) stmts)
unfolding taken met
stmts-traced [] n gs ts = refl
stmts-traced (s ∷ more) n gs ts =
    rw (
      append_assoc (stmt_tokens s.0) (flat (map stmt_tokens (map (λ p. p.0) more))) (Sign CloseBrace ∷ ts),
      s.1 n gs (flat (map stmt_tokens (map (λ p. p.0) more)) ++ (Sign CloseBrace ∷ ts)) (else_free (map (λ p. p.0) more) ts),
      stmts-traced more n gs ts,
      with_marks-append (stmt_marks s.0 n) (marks_within n (map stmt_marks (map (λ p. p.0) more))) (with_mark Plain (trace gs ts)),
    ) refl

layer : (y : Open.Stmt-F ((s : Stmt) × IsTraced s)) → IsTraced (roll-Stmt (map-Stmt ((s : Stmt) × IsTraced s) Stmt (λ p. p.0) y))
layer (Open.Let x e) = subst IsTraced (sym (rolls-Let x e)) (trace-let x e)
layer (Open.Store a e) = subst IsTraced (sym (rolls-Store a e)) (trace-store a e)
layer (Open.Pc e) = subst IsTraced (sym (rolls-Pc e)) (trace-pc e)
layer (Open.Mode e) = subst IsTraced (sym (rolls-Mode e)) (trace-mode e)
layer (Open.Rel e) = subst IsTraced (sym (rolls-Rel e)) (trace-rel e)
layer (Open.Bound e) = subst IsTraced (sym (rolls-Bound e)) (trace-bound e)
layer Open.Trap = subst IsTraced (sym rolls-Trap) trace-trap
layer (Open.If c held None) = subst IsTraced (sym (rolls-If c (map (λ p. p.0) held) None)) (trace-if c (map (λ p. p.0) held) (stmts-traced held))
layer (Open.If c held (Some other)) =
    subst IsTraced (sym (rolls-If c (map (λ p. p.0) held) (Some (map (λ p. p.0) other))))
    (trace-if_else c (map (λ p. p.0) held) (map (λ p. p.0) other) (stmts-traced held) (stmts-traced other))

-- the tokens of a statement meet the goal of statements, and have its marks
trace_stmt : (s : Stmt) → IsTraced s
trace_stmt = ind-Stmt IsTraced (λ x y is. subst (λ z. IsTraced (roll-Stmt z)) is (layer y))

pub trace_stmts : (ss : List Stmt) → AreTraced ss
unfolding taken met
trace_stmts [] n gs ts = refl
trace_stmts (s ∷ more) n gs ts =
    rw (
      append_assoc (stmt_tokens s) (flat (map stmt_tokens more)) (Sign CloseBrace ∷ ts),
      trace_stmt s n gs (flat (map stmt_tokens more) ++ (Sign CloseBrace ∷ ts)) (else_free more ts),
      trace_stmts more n gs ts,
      with_marks-append (stmt_marks s n) (marks_within n (map stmt_marks more)) (with_mark Plain (trace gs ts)),
    ) refl

-- ---- instructions and descriptions

pub with_marks-some : (ms ns : List Mark) (gs : List Goal) → with_marks ms (Some (ns, gs)) ≡ Some (ms ++ ns, gs)
with_marks-some [] ns gs = refl
with_marks-some (m ∷ ms) ns gs = ap (with_mark m) (with_marks-some ms ns gs)

trace_block : (n : ℕ) (ss : List Stmt) (gs : List Goal) (ts : List Tok) →
    trace (goal.Block n ∷ gs) (block_tokens (map stmt_tokens ss) ++ ts) ≡ with_marks (block_marks n (map stmt_marks ss)) (trace gs ts)
unfolding taken met
trace_block n ss gs ts =
    rw (append_assoc (flat (map stmt_tokens ss)) (Sign CloseBrace ∷ []) ts, trace_stmts ss (suc n) gs ts, with_marks-append (marks_within (suc n) (map stmt_marks ss)) (Plain ∷ []) (trace gs ts)) refl

instrs-next : (i : WideInstr) (more : List WideInstr) → trace (goal.Instrs ∷ []) (flat (map wide_instr_tokens more)) ≡ Some (instrs_marks more, goal.Instrs ∷ []) →
    trace (goal.Instrs ∷ []) (wide_instr_tokens i ++ flat (map wide_instr_tokens more)) ≡ Some (instrs_marks (i ∷ more), goal.Instrs ∷ [])
unfolding taken met
instrs-next i more h =
    simp (i.name.is_name, i.pattern.is_pattern)
    (rw (trace_block 1 i.body (goal.Instrs ∷ []) (flat (map wide_instr_tokens more)), h, with_marks-some (body_marks i.body) (instrs_marks more) (goal.Instrs ∷ [])) refl)

instrs-traced : (is : List WideInstr) → trace (goal.Instrs ∷ []) (flat (map wide_instr_tokens is)) ≡ Some (instrs_marks is, goal.Instrs ∷ [])
instrs-traced [] = refl
instrs-traced (i ∷ more) = instrs-next i more (instrs-traced more)

parts-traced : (word address size : ℕ) (causes : Bool) (is : List WideInstr) →
    let w : Wide = record { word = word; address = address; size = size; causes = causes; instrs = is } in trace desc_goals (wide_tokens w) ≡ Some (wide_marks w, goal.Instrs ∷ [])
unfolding taken met wide_tokens wide_marks head_tokens
parts-traced word address size true is = simp (instrs-traced is)
parts-traced word address size false is = simp (instrs-traced is)

-- the tokens of a description meet the goals of a description, and have its marks
pub trace_wide : (w : Wide) → trace desc_goals (wide_tokens w) ≡ Some (wide_marks w, goal.Instrs ∷ [])
trace_wide w = parts-traced w.word w.address w.size w.causes w.instrs
