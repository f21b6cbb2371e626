-- How many nodes statements add in code, in any case.
use Rattle.std.proofs.Common.{◌≡◌, ℕ, zero, suc, ◌+◌, ◌^◌, ◌≤◌, Bool, true, false, ◌==◌, nat_lt, if◌then◌else◌, List, [], ◌∷◌, length, map, slice_get, Option, None, Some, inl, inr, refl, sym, ap, ◌∙◌, subst, arith}
use Rattle.std.specs.Option.{option_map}
use Rattle.std.proofs.lemmas.Bool.{cases_lt, lt-ltb}
use Rattle.pg_circuit.specs.declared.node.Node.{Node}
use Rattle.pg_vec.specs.AddsNodes.{AddsNodes}
use Rattle.pg_cells.specs.declared.cell.Write.{Write}
use Rattle.pg_ast.specs.declared.name.Name.{Name as Names}
use Rattle.pg_ast.specs.declared.tree.Expr.{Expr}
use Rattle.pg_ast.specs.declared.tree.Stmt.{Stmt}
use Rattle.pg_ast.specs.declared.tree.Stmt.TheVariants.{Let, Store, Pc, Mode, Rel, Bound, Trap, If}
use Rattle.pg_ast.specs.declared.tree.Instr.{Instr}
use Rattle.pg_ast.specs.declared.tree.Desc.{Desc}
use Rattle.pg_lang_valid.specs.declared.fault.Limit.{Limit}
use Rattle.pg_lang_valid.specs.declared.fault.Limit.TheVariants.{Instructions, Accesses, Lets, Statements, Expressions}
use Rattle.pg_lang_valid.specs.Limits.{most_instructions, most_accesses, most_lets, most_statements, most_expressions, Tally, both, all_of, if_any, stmt_tally, instr_tally, tally_limit, limit_at, at_number, limit_broken}
use Rattle.pg_lang_valid.specs.Valid.{IsValid, as_limit}
use Rattle.pg_lang_valid.proofs.CheckStmtEquations.{stmt_tally-let, stmt_tally-store, stmt_tally-pc, stmt_tally-mode, stmt_tally-rel, stmt_tally-bound, stmt_tally-trap, stmt_tally-if}
use Rattle.pg_symex.specs.Calls.{Adds, AddsFew, expr_cost, stmts_cost}

-- ---- what is added

pub few_nodes : (ws : List Write) (k : ℕ) (a b : List Node) (m most : ℕ) → m ≤ most → AddsNodes a b m → AddsFew ws k a b most
few_nodes ws k a b m most l h = record { few = λ w. let f = h.few in omega arith }

pub few_adds : (ws : List Write) (k : ℕ) (a b : List Node) (m most : ℕ) → m ≤ most → Adds ws a b m → AddsFew ws k a b most
few_adds ws k a b m most l h = record { few = λ w. let f = h.few (omega arith) in omega arith }

-- an expression, and then gates
pub few_one : (ws : List Write) (k : ℕ) (a b c : List Node) (m n most : ℕ) → m + n ≤ most → Adds ws a b m → AddsNodes b c n → AddsFew ws k a c most
few_one ws k a b c m n most l h g = record { few = λ w. let f = h.few (omega arith) in let e = g.few in omega arith }

-- the fetch
pub few_fetch : (ws : List Write) (k : ℕ) (a b : List Node) (m most : ℕ) → m ≤ most → (length ws ≤ 72 → length b ≤ length a + m) → AddsFew ws k a b most
few_fetch ws k a b m most l h = record { few = λ w. let f = h (omega arith) in omega arith }

-- the fetch, and then gates
pub few_fetched : (ws : List Write) (k : ℕ) (a b c : List Node) (m n most : ℕ) → m + n ≤ most → (length ws ≤ 72 → length b ≤ length a + m) → AddsNodes b c n → AddsFew ws k a c most
few_fetched ws k a b c m n most l h g = record { few = λ w. let f = h (omega arith) in let e = g.few in omega arith }

-- what comes before a body, and the body
pub few_run : (i : Instr) (ss : List Stmt) (ws vs : List Write) (a b c : List Node) (m : ℕ) → ss ≡ i.body → vs ≡ ws → AddsFew ws (instr_tally i).accesses a b m →
    AddsFew vs (all_of (map stmt_tally ss)).accesses b c (stmts_cost (all_of (map stmt_tally ss))) → AddsFew ws (instr_tally i).accesses a c (m + stmts_cost (instr_tally i))
few_run i ss ws vs a b c m same v h g =
    let k : AddsFew vs (instr_tally i).accesses b c (stmts_cost (instr_tally i)) = subst (λ (zs : List Stmt). AddsFew vs (all_of (map stmt_tally zs)).accesses b c (stmts_cost (all_of (map stmt_tally zs)))) same g in
    record { few = λ w. let l : length vs ≡ length ws = ap length v in let f = h.few w in let e = k.few (omega arith) in omega arith }

-- ---- what statements cost

most_of : (s form : Stmt) (t : Tally) (m : ℕ) → s ≡ form → stmt_tally form ≡ t → m ≤ stmts_cost t → m ≤ stmts_cost (stmt_tally s)
most_of s form t m e f l = subst (λ (k : Tally). m ≤ stmts_cost k) (sym (ap stmt_tally e ∙ f)) l

pub let_most : (s : Stmt) (n : Names) (e : Expr) → s ≡ Let n e → expr_cost e + 2 ^ 16 ≤ stmts_cost (stmt_tally s)
unfolding both
let_most s n e is = most_of s (Let n e) _ (expr_cost e + 2 ^ 16) is (stmt_tally-let n e) (omega arith)

pub pc_most : (s : Stmt) (e : Expr) → s ≡ Pc e → expr_cost e + 2 ^ 16 ≤ stmts_cost (stmt_tally s)
unfolding both
pc_most s e is = most_of s (Pc e) _ (expr_cost e + 2 ^ 16) is (stmt_tally-pc e) (omega arith)

pub mode_most : (s : Stmt) (e : Expr) → s ≡ Mode e → expr_cost e + 2 ^ 16 ≤ stmts_cost (stmt_tally s)
unfolding both
mode_most s e is = most_of s (Mode e) _ (expr_cost e + 2 ^ 16) is (stmt_tally-mode e) (omega arith)

pub rel_most : (s : Stmt) (e : Expr) → s ≡ Rel e → expr_cost e + 2 ^ 16 ≤ stmts_cost (stmt_tally s)
unfolding both
rel_most s e is = most_of s (Rel e) _ (expr_cost e + 2 ^ 16) is (stmt_tally-rel e) (omega arith)

pub bound_most : (s : Stmt) (e : Expr) → s ≡ Bound e → expr_cost e + 2 ^ 16 ≤ stmts_cost (stmt_tally s)
unfolding both
bound_most s e is = most_of s (Bound e) _ (expr_cost e + 2 ^ 16) is (stmt_tally-bound e) (omega arith)

pub trap_most : (s : Stmt) → s ≡ Trap → 2 ^ 16 ≤ stmts_cost (stmt_tally s)
trap_most s is = most_of s Trap _ (2 ^ 16) is stmt_tally-trap (omega arith)

pub store_most : (s : Stmt) (a e : Expr) → s ≡ Store a e → expr_cost a + expr_cost e + 2 ^ 16 ≤ stmts_cost (stmt_tally s)
unfolding both
store_most s a e is = most_of s (Store a e) _ (expr_cost a + expr_cost e + 2 ^ 16) is (stmt_tally-store a e) (omega arith)

abbrev pub arms_tally : List Stmt → Option (List Stmt) → Tally
arms_tally held other = both (all_of (map stmt_tally held)) (if_any (option_map (map stmt_tally) other))

pub if_most : (s : Stmt) (c : Expr) (held : List Stmt) (other : Option (List Stmt)) → s ≡ If c held other → expr_cost c + (stmts_cost (arms_tally held other) + 3) ≤ stmts_cost (stmt_tally s)
unfolding both
if_most s c held other is = most_of s (If c held other) _ (expr_cost c + (stmts_cost (arms_tally held other) + 3)) is (stmt_tally-if c held other) (omega arith)

pub if_accesses : (s : Stmt) (c : Expr) (held : List Stmt) (other : Option (List Stmt)) → s ≡ If c held other → (arms_tally held other).accesses ≤ (stmt_tally s).accesses
unfolding both
if_accesses s c held other is = subst (λ (k : Tally). (arms_tally held other).accesses ≤ k.accesses) (sym (ap stmt_tally is ∙ stmt_tally-if c held other)) (omega arith)

-- ---- each statement

pub store_first : (ws : List Write) (k : ℕ) (a b : List Node) (s : Stmt) (x y : Expr) → s ≡ Store x y → Adds ws a b (expr_cost x) → AddsFew ws k a b (stmts_cost (stmt_tally s))
store_first ws k a b s x y is h = few_adds ws k a b (expr_cost x) _ (omega (arith, store_most s x y is)) h

pub store_second : (ws vs : List Write) (k : ℕ) (a b c : List Node) (s : Stmt) (x y : Expr) → s ≡ Store x y → vs ≡ ws → Adds ws a b (expr_cost x) → Adds vs b c (expr_cost y) → AddsFew ws k a c (expr_cost x + expr_cost y)
store_second ws vs k a b c s x y is e h g = record {
  few = λ w. let v : length vs ≡ length ws = ap length e in let f = h.few (omega arith) in let d = g.few (omega arith) in omega arith;
}

pub store_value : (ws vs : List Write) (k : ℕ) (a b c : List Node) (s : Stmt) (x y : Expr) → s ≡ Store x y → vs ≡ ws → Adds ws a b (expr_cost x) → Adds vs b c (expr_cost y) → AddsFew ws k a c (stmts_cost (stmt_tally s))
store_value ws vs k a b c s x y is e h g = record { few = λ w. let f = (store_second ws vs k a b c s x y is e h g).few w in omega (arith, store_most s x y is) }

pub store_last : (ws vs : List Write) (k : ℕ) (a b c d : List Node) (s : Stmt) (x y : Expr) → s ≡ Store x y → vs ≡ ws → Adds ws a b (expr_cost x) → Adds vs b c (expr_cost y) → AddsNodes c d (2 ^ 15 + 3) → AddsFew ws k a d (stmts_cost (stmt_tally s))
store_last ws vs k a b c d s x y is e h g n = record { few = λ w. let f = (store_second ws vs k a b c s x y is e h g).few w in let l = n.few in omega (arith, store_most s x y is) }

pub if_last : (ws vs : List Write) (a b c : List Node) (s : Stmt) (e : Expr) (held slice : List Stmt) (other : Option (List Stmt)) → s ≡ If e held other → slice ≡ held → vs ≡ ws → Adds ws a b (expr_cost e) →
    AddsFew vs (arms_tally slice other).accesses b c (stmts_cost (arms_tally slice other) + 3) → AddsFew ws (stmt_tally s).accesses a c (stmts_cost (stmt_tally s))
if_last ws vs a b c s e held slice other is same v h g =
    let k : AddsFew vs (arms_tally held other).accesses b c (stmts_cost (arms_tally held other) + 3) = subst (λ (ss : List Stmt). AddsFew vs (arms_tally ss other).accesses b c (stmts_cost (arms_tally ss other) + 3)) same g in
    record {
      few = λ w.
          let l : length vs ≡ length ws = ap length v in
          let q = if_accesses s e held other is in
          let f = h.few (omega arith) in
          let d = k.few (omega arith) in
          omega (arith, if_most s e held other is);
    }

-- ---- the arms of an if

pub arms_first : (ws : List Write) (a b c d : List Node) (held : List Stmt) (other : Option (List Stmt)) → AddsNodes a b 1 → AddsNodes b c 1 → AddsFew ws (all_of (map stmt_tally held)).accesses c d (stmts_cost (all_of (map stmt_tally held))) →
    AddsFew ws (arms_tally held other).accesses a d (stmts_cost (arms_tally held other) + 3)
unfolding both
arms_first ws a b c d held other f g h = record { few = λ w. let l = f.few in let m = g.few in let n = h.few (omega arith) in omega arith }

pub arms_second : (ws vs : List Write) (a b c d e : List Node) (held : List Stmt) (other : Option (List Stmt)) → AddsNodes a b 1 → AddsNodes b c 1 → AddsFew ws (all_of (map stmt_tally held)).accesses c d (stmts_cost (all_of (map stmt_tally held))) →
    length vs ≤ length ws + (all_of (map stmt_tally held)).accesses →
    AddsFew vs (if_any (option_map (map stmt_tally) other)).accesses d e (stmts_cost (if_any (option_map (map stmt_tally) other))) → AddsFew ws (arms_tally held other).accesses a e (stmts_cost (arms_tally held other) + 2)
unfolding both
arms_second ws vs a b c d e held other f g h v k = record { few = λ w. let l = f.few in let m = g.few in let n = h.few (omega arith) in let o = k.few (omega arith) in omega arith }

pub arms_third : (ws : List Write) (k m : ℕ) (a b : List Node) → AddsFew ws k a b (m + 2) → AddsFew ws k a b (m + 3)
arms_third ws k m a b h = record { few = λ w. let f = h.few w in omega arith }

pub arms_last : (ws : List Write) (k m : ℕ) (a b c : List Node) → AddsFew ws k a b (m + 2) → AddsNodes b c 1 → AddsFew ws k a c (m + 3)
arms_last ws k m a b c h g = record { few = λ w. let f = h.few w in let e = g.few in omega arith }

-- ---- what a valid description says of an instruction

as_limit_none : (o : Option (Limit × ℕ)) → as_limit o ≡ None → o ≡ None
as_limit_none None h = refl
as_limit_none (Some x) h = absurd (cc h)

at_number_none : (k : ℕ) (o : Option Limit) (later : Option (Limit × ℕ)) → at_number k o later ≡ None → (o ≡ None) × (later ≡ None)
at_number_none k None later h = (refl, h)
at_number_none k (Some x) later h = absurd (cc h)

within : (b : Bool) (t : Tally) → (if b then Some Instructions else tally_limit t) ≡ None → tally_limit t ≡ None
within true t e = absurd (cc e)
within false t e = e

limits_at : (k : ℕ) (is : List Instr) (n : ℕ) (i : Instr) → limit_broken k is ≡ None → slice_get is n ≡ Some i → tally_limit (instr_tally i) ≡ None
unfolding limit_broken
limits_at k [] n i h g = absurd (cc g)
limits_at k (j ∷ js) zero i h g =
    let same : j ≡ i = cc g in
    subst (λ z. tally_limit (instr_tally z) ≡ None) same (within (k == most_instructions) (instr_tally j) ((at_number_none k (limit_at k j) (limit_broken (k + 1) js) h).0))
limits_at k (j ∷ js) (suc n) i h g = limits_at (k + 1) js n i ((at_number_none k (limit_at k j) (limit_broken (k + 1) js) h).1) g

record Bounded (t : Tally) : Type 0 where
  accesses : t.accesses ≤ most_accesses
  statements : t.statements ≤ most_statements
  expressions : t.expressions ≤ most_expressions

not_below : (m n : ℕ) → nat_lt m n ≡ false → n ≤ m
not_below m n h = elim (cases_lt m n) [ inl less ↦ absurd (cc (h, lt-ltb m n less)) | inr more ↦ more ]

where_none : (b : Bool) (x : Limit) (o : Option Limit) → (if b then Some x else o) ≡ None → (b ≡ false) × (o ≡ None)
where_none true x o h = absurd (cc h)
where_none false x o h = (refl, h)

bounded : (t : Tally) → tally_limit t ≡ None → Bounded t
bounded t h =
    let a = where_none (nat_lt most_accesses t.accesses) Accesses _ h in
    let l = where_none (nat_lt most_lets t.lets) Lets _ a.1 in
    let s = where_none (nat_lt most_statements t.statements) Statements _ l.1 in
    let e = where_none (nat_lt most_expressions t.expressions) Expressions _ s.1 in
    record { accesses = not_below most_accesses t.accesses a.0; statements = not_below most_statements t.statements s.0; expressions = not_below most_expressions t.expressions e.0 }

pub few_of_valid : (d : Desc) (k : ℕ) (i : Instr) (ws : List Write) (a b : List Node) → IsValid d → slice_get d.instrs k ≡ Some i → AddsFew ws (instr_tally i).accesses a b (2 ^ 16 + stmts_cost (instr_tally i)) →
    length ws ≤ 64 → length b ≤ length a + 2 ^ 27
few_of_valid d k i ws a b valid found h l =
    let t = bounded (instr_tally i) (limits_at 0 d.instrs k i (as_limit_none (limit_broken 0 d.instrs) valid.limits) found) in
    let x = t.accesses in
    let y = t.statements in
    let z = t.expressions in
    let f = h.few (omega arith) in
    omega arith
