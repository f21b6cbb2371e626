-- A description has no mark that is too deep.
use Rattle.std.proofs.Common.{◌≡◌, ℕ, zero, suc, ◌+◌, ◌≤◌, Bool, true, false, ◌||◌, nat_lt, map, List, [], ◌∷◌, ◌++◌, take, Option, None, Some, ap, sym, ◌∙◌, subst, refl, arith}
use Rattle.std.proofs.lemmas.Bool.{le-ltb}
use Rattle.pg_lang_token.specs.declared.tok.Tok.{Tok}
use Rattle.pg_ast.specs.declared.name.Name.{Name as Names}
use Rattle.pg_ast.specs.declared.tree.Op.{Op}
use Rattle.pg_ast.specs.declared.tree.Expr.{Expr}
use Rattle.pg_ast.specs.declared.tree.Expr.TheVariants.{Lit, Name, Pc, Mode, Rel, Bound, Load, Not, Bin, Cat, Cut, Ext, Sext, Sel, rolls-Lit, rolls-Name, rolls-Pc, rolls-Mode, rolls-Rel, rolls-Bound, rolls-Load, rolls-Not, rolls-Bin, rolls-Cat, rolls-Cut, rolls-Ext, rolls-Sext, rolls-Sel}
use Rattle.pg_ast.specs.declared.tree.Expr.TheOpen as Open
use Rattle.pg_ast.specs.declared.tree.Expr.TheFolds.{ind-Expr, map-Expr}
use Rattle.pg_ast.specs.declared.tree.Expr.TheViews.{roll-Expr}
use Rattle.pg_ast.specs.declared.tree.Stmt.{Stmt}
use Rattle.pg_ast.specs.declared.tree.Stmt.TheVariants.{Let, Store, Pc as ToPc, Mode as ToMode, Rel as ToRel, Bound as ToBound, Trap, rolls-Let, rolls-Store, rolls-Pc as rolls-ToPc, rolls-Mode as rolls-ToMode, rolls-Rel as rolls-ToRel, rolls-Bound as rolls-ToBound, rolls-Trap, rolls-If}
use Rattle.pg_ast.specs.declared.tree.Stmt.TheOpen as OpenStmt
use Rattle.pg_ast.specs.declared.tree.Stmt.TheFolds.{ind-Stmt, map-Stmt}
use Rattle.pg_ast.specs.declared.tree.Stmt.TheViews.{roll-Stmt}
use Rattle.pg_ast.specs.declared.tree.Instr.{Instr}
use Rattle.pg_ast.specs.declared.tree.Desc.{Desc}
use Rattle.pg_ast.specs.Levels.{most_expr_levels, most_block_levels, depth_of, greatest, expr_levels, block_levels}
use Rattle.pg_ast.specs.Tokens.{instr_tokens, head_tokens, tokens_of, flat}
use Rattle.pg_ast.proofs.Depths.{depth_some}
use Rattle.pg_ast.proofs.ExprEquations as exprs
use Rattle.pg_ast.proofs.StmtEquations as stmts
use Rattle.pg_read.specs.Marks.{Mark, Plain, is_deep, has_deep, expr_marks, stmt_marks, marks_within, block_marks, else_marks, body_marks}
use Rattle.pg_read.specs.Fronts.{WideInstr, Wide, bare_of, wide_instr_tokens, wide_tokens, instrs_marks, wide_marks}
use Rattle.pg_read.proofs.MarkEquations as marks

or-assoc : (a b c : Bool) → (a || b) || c ≡ a || (b || c)
or-assoc true b c = refl
or-assoc false b c = refl

-- marks are deep where a part of them is
deep-both : (ms ns : List Mark) → has_deep (ms ++ ns) ≡ has_deep ms || has_deep ns
deep-both [] ns = refl
deep-both (m ∷ ms) ns = ap (λ b. is_deep m || b) (deep-both ms ns) ∙ sym (or-assoc (is_deep m) (has_deep ms) (has_deep ns))

low-both : (ms ns : List Mark) → has_deep ms ≡ false → has_deep ns ≡ false → has_deep (ms ++ ns) ≡ false
low-both ms ns h k = deep-both ms ns ∙ rw (h, k) refl

-- ---- expressions

abbrev IsLow : Expr → Type 0
IsLow e = (n : ℕ) → depth_of e + n ≤ most_expr_levels + 1 → has_deep (expr_marks e n) ≡ false

low : (e : Expr) (n : ℕ) → depth_of e + n ≤ most_expr_levels + 1 → nat_lt most_expr_levels n ≡ false
low e n h = le-ltb most_expr_levels n (omega (arith, depth_some e))

low-lit : (v w : ℕ) → IsLow (Lit v w)
low-lit v w n within = rw (marks.expr_marks-lit v w n, low (Lit v w) n within) refl

low-name : (x : Names) → IsLow (Name x)
low-name x n within = rw (marks.expr_marks-name x n, low (Name x) n within) refl

low-pc : IsLow Pc
low-pc n within = rw (marks.expr_marks-pc n, low Pc n within) refl

low-mode : IsLow Mode
low-mode n within = rw (marks.expr_marks-mode n, low Mode n within) refl

low-rel : IsLow Rel
low-rel n within = rw (marks.expr_marks-rel n, low Rel n within) refl

low-bound : IsLow Bound
low-bound n within = rw (marks.expr_marks-bound n, low Bound n within) refl

low-load : (e : Expr) → IsLow e → IsLow (Load e)
low-load e he n within = rw (marks.expr_marks-load e n, low (Load e) n within) (low-both (expr_marks e (suc n)) (Plain ∷ []) (he (suc n) (omega (arith, exprs.depth_of-load e))) refl)

low-not : (e : Expr) → IsLow e → IsLow (Not e)
low-not e he n within = rw (marks.expr_marks-not e n, low (Not e) n within) (he (suc n) (omega (arith, exprs.depth_of-not e)))

low-bin : (op : Op) (x y : Expr) → IsLow x → IsLow y → IsLow (Bin op x y)
low-bin op x y hx hy n within = rw (marks.expr_marks-bin op x y n, low (Bin op x y) n within) (low-both (expr_marks x (suc n) ++ Plain ∷ expr_marks y (suc n)) (Plain ∷ []) (low-both (expr_marks x (suc n)) (Plain ∷ expr_marks y (suc n)) (hx (suc n) (omega (arith, exprs.depth_of-bin op x y))) (hy (suc n) (omega (arith, exprs.depth_of-bin op x y)))) refl)

low-cat : (x y : Expr) → IsLow x → IsLow y → IsLow (Cat x y)
low-cat x y hx hy n within = rw (marks.expr_marks-cat x y n, low (Cat x y) n within) (low-both (expr_marks x (suc n) ++ Plain ∷ expr_marks y (suc n)) (Plain ∷ []) (low-both (expr_marks x (suc n)) (Plain ∷ expr_marks y (suc n)) (hx (suc n) (omega (arith, exprs.depth_of-cat x y))) (hy (suc n) (omega (arith, exprs.depth_of-cat x y)))) refl)

low-cut : (e : Expr) (h k : ℕ) → IsLow e → IsLow (Cut e h k)
low-cut e h k he n within = rw (marks.expr_marks-cut e h k n, low (Cut e h k) n within) (low-both (expr_marks e (suc n)) (Plain ∷ Plain ∷ Plain ∷ Plain ∷ Plain ∷ []) (he (suc n) (omega (arith, exprs.depth_of-cut e h k))) refl)

low-ext : (e : Expr) (w : ℕ) → IsLow e → IsLow (Ext e w)
low-ext e w he n within = rw (marks.expr_marks-ext e w n, low (Ext e w) n within) (low-both (expr_marks e (suc n)) (Plain ∷ Plain ∷ Plain ∷ []) (he (suc n) (omega (arith, exprs.depth_of-ext e w))) refl)

low-sext : (e : Expr) (w : ℕ) → IsLow e → IsLow (Sext e w)
low-sext e w he n within = rw (marks.expr_marks-sext e w n, low (Sext e w) n within) (low-both (expr_marks e (suc n)) (Plain ∷ Plain ∷ Plain ∷ []) (he (suc n) (omega (arith, exprs.depth_of-sext e w))) refl)

low-sel : (c x y : Expr) → IsLow c → IsLow x → IsLow y → IsLow (Sel c x y)
low-sel c x y hc hx hy n within = rw (marks.expr_marks-sel c x y n, low (Sel c x y) n within) (low-both (expr_marks c (suc n) ++ Plain ∷ expr_marks x (suc n) ++ Plain ∷ expr_marks y (suc n)) (Plain ∷ []) (low-both (expr_marks c (suc n) ++ Plain ∷ expr_marks x (suc n)) (Plain ∷ expr_marks y (suc n)) (low-both (expr_marks c (suc n)) (Plain ∷ expr_marks x (suc n)) (hc (suc n) (omega (arith, exprs.depth_of-sel c x y))) (hx (suc n) (omega (arith, exprs.depth_of-sel c x y)))) (hy (suc n) (omega (arith, exprs.depth_of-sel c x y)))) refl)

layer : (y : Open.Expr-F ((e : Expr) × IsLow e)) → IsLow (roll-Expr (map-Expr ((e : Expr) × IsLow e) Expr (λ p. p.0) y))
layer (Open.Lit v w) = subst IsLow (sym (rolls-Lit v w)) (low-lit v w)
layer (Open.Name n) = subst IsLow (sym (rolls-Name n)) (low-name n)
layer Open.Pc = subst IsLow (sym rolls-Pc) low-pc
layer Open.Mode = subst IsLow (sym rolls-Mode) low-mode
layer Open.Rel = subst IsLow (sym rolls-Rel) low-rel
layer Open.Bound = subst IsLow (sym rolls-Bound) low-bound
layer (Open.Load e) = subst IsLow (sym (rolls-Load e.0)) (low-load e.0 e.1)
layer (Open.Not e) = subst IsLow (sym (rolls-Not e.0)) (low-not e.0 e.1)
layer (Open.Bin op x y) = subst IsLow (sym (rolls-Bin op x.0 y.0)) (low-bin op x.0 y.0 x.1 y.1)
layer (Open.Cat x y) = subst IsLow (sym (rolls-Cat x.0 y.0)) (low-cat x.0 y.0 x.1 y.1)
layer (Open.Cut e h k) = subst IsLow (sym (rolls-Cut e.0 h k)) (low-cut e.0 h k e.1)
layer (Open.Ext e n) = subst IsLow (sym (rolls-Ext e.0 n)) (low-ext e.0 n e.1)
layer (Open.Sext e n) = subst IsLow (sym (rolls-Sext e.0 n)) (low-sext e.0 n e.1)
layer (Open.Sel c x y) = subst IsLow (sym (rolls-Sel c.0 x.0 y.0)) (low-sel c.0 x.0 y.0 c.1 x.1 y.1)

low_expr : (e : Expr) → IsLow e
low_expr = ind-Expr IsLow (λ x y is. subst (λ z. IsLow (roll-Expr z)) is (layer y))

-- ---- statements: blocks inside have level n

abbrev IsLowStmt : Stmt → Type 0
IsLowStmt s = (n : ℕ) → expr_levels s ≤ most_expr_levels → block_levels s + n ≤ most_block_levels + 1 → has_deep (stmt_marks s n) ≡ false

low_stmt-let : (x : Names) (e : Expr) → IsLowStmt (Let x e)
low_stmt-let x e n shallow nested = rw (marks.stmt_marks-let x e n) (simp (low_expr e 1 (omega (arith, stmts.expr_levels-let x e)), deep-both))

low_stmt-pc : (e : Expr) → IsLowStmt (ToPc e)
low_stmt-pc e n shallow nested = rw (marks.stmt_marks-pc e n) (simp (low_expr e 1 (omega (arith, stmts.expr_levels-pc e)), deep-both))

low_stmt-mode : (e : Expr) → IsLowStmt (ToMode e)
low_stmt-mode e n shallow nested = rw (marks.stmt_marks-mode e n) (simp (low_expr e 1 (omega (arith, stmts.expr_levels-mode e)), deep-both))

low_stmt-rel : (e : Expr) → IsLowStmt (ToRel e)
low_stmt-rel e n shallow nested = rw (marks.stmt_marks-rel e n) (simp (low_expr e 1 (omega (arith, stmts.expr_levels-rel e)), deep-both))

low_stmt-bound : (e : Expr) → IsLowStmt (ToBound e)
low_stmt-bound e n shallow nested = rw (marks.stmt_marks-bound e n) (simp (low_expr e 1 (omega (arith, stmts.expr_levels-bound e)), deep-both))

low_stmt-store : (a e : Expr) → IsLowStmt (Store a e)
low_stmt-store a e n shallow nested =
    let within = stmts.expr_levels-store a e in
    rw (marks.stmt_marks-store a e n) (simp (low_expr a 1 (omega (arith, within)), low_expr e 1 (omega (arith, within)), deep-both))

low_stmt-trap : IsLowStmt Trap
low_stmt-trap n shallow nested = rw (marks.stmt_marks-trap n) refl

-- the statements of a block
low-within : (ss : List ((s : Stmt) × IsLowStmt s)) (n : ℕ) → greatest (map expr_levels (map (λ p. p.0) ss)) ≤ most_expr_levels → greatest (map block_levels (map (λ p. p.0) ss)) + n ≤ most_block_levels + 1 →
    has_deep (marks_within n (map stmt_marks (map (λ p. p.0) ss))) ≡ false
low-within [] n shallow nested = refl
low-within (s ∷ more) n shallow nested =
    rw (deep-both (stmt_marks s.0 n) (marks_within n (map stmt_marks (map (λ p. p.0) more))), s.1 n (omega arith) (omega arith), low-within more n (omega arith) (omega arith)) refl

low-block : (n : ℕ) (stmts : List (ℕ → List Mark)) → n ≤ most_block_levels → has_deep (marks_within (suc n) stmts) ≡ false → has_deep (block_marks n stmts) ≡ false
low-block n stmts h k = rw (le-ltb most_block_levels n h, deep-both (marks_within (suc n) stmts) (Plain ∷ []), k) refl

low-if_parts : (c : Expr) (n : ℕ) (held : List (ℕ → List Mark)) (other : Option (List (ℕ → List Mark))) → depth_of c ≤ most_expr_levels → has_deep (block_marks n held) ≡ false → has_deep (else_marks n other) ≡ false →
    has_deep (Plain ∷ expr_marks c 1 ++ block_marks n held ++ else_marks n other) ≡ false
low-if_parts c n held other hc hheld hother =
    deep-both (expr_marks c 1 ++ block_marks n held) (else_marks n other) ∙ rw (deep-both (expr_marks c 1) (block_marks n held), low_expr c 1 (omega arith), hheld, hother) refl

stmt_layer : (y : OpenStmt.Stmt-F ((s : Stmt) × IsLowStmt s)) → IsLowStmt (roll-Stmt (map-Stmt ((s : Stmt) × IsLowStmt s) Stmt (λ p. p.0) y))
stmt_layer (OpenStmt.Let x e) = subst IsLowStmt (sym (rolls-Let x e)) (low_stmt-let x e)
stmt_layer (OpenStmt.Store a e) = subst IsLowStmt (sym (rolls-Store a e)) (low_stmt-store a e)
stmt_layer (OpenStmt.Pc e) = subst IsLowStmt (sym (rolls-ToPc e)) (low_stmt-pc e)
stmt_layer (OpenStmt.Mode e) = subst IsLowStmt (sym (rolls-ToMode e)) (low_stmt-mode e)
stmt_layer (OpenStmt.Rel e) = subst IsLowStmt (sym (rolls-ToRel e)) (low_stmt-rel e)
stmt_layer (OpenStmt.Bound e) = subst IsLowStmt (sym (rolls-ToBound e)) (low_stmt-bound e)
stmt_layer OpenStmt.Trap = subst IsLowStmt (sym rolls-Trap) low_stmt-trap
stmt_layer (OpenStmt.If c held None) = subst IsLowStmt (sym (rolls-If c (map (λ p. p.0) held) None)) (λ n shallow nested.
    let within = stmts.expr_levels-if c (map (λ p. p.0) held) None in
    let deeper = stmts.block_levels-if c (map (λ p. p.0) held) None in
    rw (marks.stmt_marks-if c (map (λ p. p.0) held) None n)
    (low-if_parts c n (map stmt_marks (map (λ p. p.0) held)) None (omega (arith, within))
    (low-block n (map stmt_marks (map (λ p. p.0) held)) (omega (arith, deeper)) (low-within held (suc n) (omega (arith, within)) (omega (arith, deeper)))) refl))
stmt_layer (OpenStmt.If c held (Some other)) = subst IsLowStmt (sym (rolls-If c (map (λ p. p.0) held) (Some (map (λ p. p.0) other)))) (λ n shallow nested.
    let within = stmts.expr_levels-if c (map (λ p. p.0) held) (Some (map (λ p. p.0) other)) in
    let deeper = stmts.block_levels-if c (map (λ p. p.0) held) (Some (map (λ p. p.0) other)) in
    rw (marks.stmt_marks-if c (map (λ p. p.0) held) (Some (map (λ p. p.0) other)) n)
    (low-if_parts c n (map stmt_marks (map (λ p. p.0) held)) (Some (map stmt_marks (map (λ p. p.0) other))) (omega (arith, within))
    (low-block n (map stmt_marks (map (λ p. p.0) held)) (omega (arith, deeper)) (low-within held (suc n) (omega (arith, within)) (omega (arith, deeper))))
    (low-block n (map stmt_marks (map (λ p. p.0) other)) (omega (arith, deeper)) (low-within other (suc n) (omega (arith, within)) (omega (arith, deeper))))))

low_stmt : (s : Stmt) → IsLowStmt s
low_stmt = ind-Stmt IsLowStmt (λ x y is. subst (λ z. IsLowStmt (roll-Stmt z)) is (stmt_layer y))

low_stmts : (ss : List Stmt) (n : ℕ) → greatest (map expr_levels ss) ≤ most_expr_levels → greatest (map block_levels ss) + n ≤ most_block_levels + 1 → has_deep (marks_within n (map stmt_marks ss)) ≡ false
low_stmts [] n shallow nested = refl
low_stmts (s ∷ more) n shallow nested =
    rw (deep-both (stmt_marks s n) (marks_within n (map stmt_marks more)), low_stmt s n (omega arith) (omega arith), low_stmts more n (omega arith) (omega arith)) refl

-- ---- descriptions

-- an instruction as one of any depth
abbrev wide_instr : Instr → WideInstr
wide_instr i = record { name = i.name; pattern = i.pattern; body = i.body }

-- a description as one of any depth
abbrev pub wide_of : Desc → Wide
wide_of d = record { word = d.word; address = d.address; size = d.size; causes = d.causes; instrs = map wide_instr d.instrs }

instrs-same : (is : List Instr) → flat (map wide_instr_tokens (map wide_instr is)) ≡ flat (map instr_tokens is)
unfolding instr_tokens
instrs-same [] = refl
instrs-same (i ∷ more) = ap (λ ts. wide_instr_tokens (wide_instr i) ++ ts) (instrs-same more)

pub wide_same : (d : Desc) → wide_tokens (wide_of d) ≡ tokens_of d
unfolding wide_tokens tokens_of head_tokens
wide_same d = rw (instrs-same d.instrs) refl

plain-low : (ts : List Tok) → has_deep (map (λ t. Plain) ts) ≡ false
plain-low [] = refl
plain-low (t ∷ ts) = plain-low ts

instr-low : (i : Instr) → has_deep (body_marks i.body) ≡ false
instr-low i =
    let exprs = i.shallow.exprs in let blocks = i.shallow.blocks in
    low-block 1 (map stmt_marks i.body) (omega arith) (low_stmts i.body 2 exprs (omega arith))

instrs-low : (is : List Instr) → has_deep (instrs_marks (map wide_instr is)) ≡ false
instrs-low [] = refl
instrs-low (i ∷ more) = deep-both (body_marks i.body) (instrs_marks (map wide_instr more)) ∙ rw (instr-low i, instrs-low more) refl

pub wide_low : (d : Desc) → has_deep (wide_marks (wide_of d)) ≡ false
unfolding wide_marks
wide_low d =
    deep-both (map (λ t. Plain) (head_tokens (bare_of (wide_of d)))) (instrs_marks (map wide_instr d.instrs))
    ∙ rw (plain-low (head_tokens (bare_of (wide_of d))), instrs-low d.instrs) refl

-- the first of marks that are not too deep are not too deep
take-more : (b : Bool) (x y : Bool) → b || x ≡ false → (x ≡ false → y ≡ false) → b || y ≡ false
take-more true x y h more = h
take-more false x y h more = more h

pub take_low : (n : ℕ) (ms : List Mark) → has_deep ms ≡ false → has_deep (take n ms) ≡ false
take_low zero ms h = refl
take_low (suc n) [] h = refl
take_low (suc n) (m ∷ ms) h = take-more (is_deep m) (has_deep ms) (has_deep (take n ms)) h (take_low n ms)

last-more : (b x : Bool) → x ≡ true → b || x ≡ true
last-more true x h = refl
last-more false x h = h

-- a mark that is too deep at the end
pub last_deep : (ms : List Mark) (m : Mark) → is_deep m ≡ true → has_deep (ms ++ m ∷ []) ≡ true
last_deep [] m e = rw e refl
last_deep (n ∷ ms) m e = last-more (is_deep n) (has_deep (ms ++ m ∷ [])) (last_deep ms m e)
