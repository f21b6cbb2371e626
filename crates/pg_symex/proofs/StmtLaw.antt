-- Every statement that keeps to the table of widths is made right.
use Rattle.std.proofs.Common.{◌≡◌, ℕ, ◌==◌, Bool, true, false, cond, List, [], ◌∷◌, map, length, Option, None, Some, refl, sym, ap, ◌∙◌, subst}
use Rattle.std.specs.Prelude.{if◌then◌else◌}
use Rattle.std.specs.Option.{option_map}
use Rattle.pg_circuit.specs.declared.node.Gate.{Gate}
use Rattle.pg_circuit.specs.Values.{gate_value}
use Rattle.pg_word.specs.Psw.{mode_of}
use Rattle.pg_vec.specs.Number.{number, bit_of as bit_number}
use Rattle.pg_ast.specs.declared.name.Name.{Name as Names}
use Rattle.pg_ast.specs.declared.tree.Expr.{Expr}
use Rattle.pg_ast.specs.declared.tree.Stmt.{Stmt}
use Rattle.pg_ast.specs.declared.tree.Stmt.TheVariants.{Let, Store, Pc, Mode, Rel, Bound, Trap, If, rolls-Let, rolls-Store, rolls-Pc, rolls-Mode, rolls-Rel, rolls-Bound, rolls-Trap, rolls-If}
use Rattle.pg_ast.specs.declared.tree.Stmt.TheOpen as Open
use Rattle.pg_ast.specs.declared.tree.Stmt.TheFolds.{ind-Stmt, map-Stmt}
use Rattle.pg_ast.specs.declared.tree.Stmt.TheViews.{roll-Stmt}
use Rattle.pg_lang_meaning.specs.Values.{value}
use Rattle.pg_lang_meaning.specs.Bodies.{Course, Trapped, Going, with_bits, Run, let_deed, store_deed, with_p, with_mode, with_l, with_b, in_order, block_deed, else_deed, deed_of}
use Rattle.pg_lang_meaning.proofs.DeedEquations as deeds
use Rattle.pg_lang_valid.specs.Widths.{LetWidths, judged_of, width_of, Keeps, wants, then_fares, fares_in_order, fares_if_any, after_block, fare_of}
use Rattle.pg_lang_valid.proofs.DeedSound.{wants_keeps, then_fares_keeps, after_block_keeps, binds_keeps}
use Rattle.pg_lang_valid.proofs.FareEquations as fares
use Rattle.pg_symex.specs.declared.regs.Next.{Next}
use Rattle.pg_symex.specs.Flow.{SymEntry, SymRun}
use Rattle.pg_symex.specs.Numbers.{value_of, entry_value, next_psw}
use Rattle.pg_symex.specs.There.{IsSymEntry, sym_setting}
use Rattle.pg_symex.specs.Exprs.{bit_0, expr_made}
use Rattle.pg_symex.specs.Stmts.{assigned, let_made, store_made, trap_made, block_made, else_made, if_made, in_order_made, stmt_made}
use Rattle.pg_symex.specs.Follows.{Makes}
use Rattle.pg_symex.specs.Ends.{IsSymRun, Does, IsRightStmt}
use Rattle.pg_symex.proofs.StmtEquations as mades
use Rattle.pg_symex.proofs.ExprLaw.{expr_right}
use Rattle.pg_symex.proofs.ExprForms.{bits-later, entry-later}
use Rattle.pg_symex.proofs.AccessLaws.{bit_0-there, number-bit_0}
use Rattle.pg_symex.proofs.StmtForms.{run-later, seq-does, expr-does, does_as, block-does, nothing-does, Puts, assigned-does, trap-does, store-does}
use Rattle.pg_symex.proofs.IfForms.{IsArm, if-does}

-- an expression of a body under way
expr-is : (at : SymEntry) (r : SymRun) (ws : LetWidths) (n : ℕ) (e : Expr) → IsSymEntry (length r.flow.nodes) at → IsSymRun at r ws → width_of (sym_setting at) e ws ≡ Some n →
    Makes at r.lets r.writes r.flow n (expr_made e at r.lets r.writes r.flow) (value e)
expr-is at r ws n e entry is w = expr_right e at r.lets ws r.writes r.flow n entry is.lets is.flow w

-- ---- let

right-let : (m : Names) (e : Expr) → IsRightStmt (Let m e)
right-let m e at r place ws next after entry is h =
    let b = binds_keeps m.bytes (sym_setting at) e place ws next after (sym (fares.fare_of-let m e (sym_setting at) place ws) ∙ h) in
    let p = expr-is at r ws b.0 e entry is b.1 in
    let part = expr_made e at r.lets r.writes r.flow in
    let s = record r { flow = part.1 } in
    let later = run-later at r ws part.1 is p.front p.flow in
    let new = let_made m.bytes part.0 s in
    let n = nothing-does at s ws later in
    let d : Does at s new ((m.bytes, b.0) ∷ ws) (λ values q. let_deed q m.bytes (Some (value_of values part.0))) = record {
      run = record { flow = later.flow; trap = later.trap; next = later.next; lets = (refl, p.bits, later.lets) };
      front = n.front;
      cells = n.cells;
      skips = λ inputs values storage v z a dead. let k = n.skips inputs values storage v z a dead in record { live = k.live; mem_trap = k.mem_trap; trap = k.trap; window = k.window; next = k.next };
      ends = λ inputs values storage v z a reached. (reached, refl, refl, refl);
    } in
    does_as at r new (stmt_made (Let m e) at r) after _ _ (mades.made-let m e at r) (λ values q. deeds.deed_of-let m e (entry_value values at) q)
    (subst (λ l. Does at r new l (λ values q. let_deed q m.bytes (value e (entry_value values at) q.lets q.window))) b.2
    (expr-does at r b.0 part new ((m.bytes, b.0) ∷ ws) (value e) (λ values o q. let_deed q m.bytes o) (λ values q. refl) p d))

-- ---- store

right-store : (a e : Expr) → IsRightStmt (Store a e)
right-store a e at r place ws next after entry is h =
    let f = then_fares_keeps (wants at.a (judged_of (sym_setting at) a ws) place ws) (λ n same. wants at.w (judged_of (sym_setting at) e ws) place ws) next after (sym (fares.fare_of-store a e (sym_setting at) place ws) ∙ h) in
    let wa = wants_keeps at.a (sym_setting at) a place ws f.0 f.1 f.2 in
    let we = wants_keeps at.w (sym_setting at) e place ws next after f.3 in
    let p = expr-is at r ws at.a a entry is wa.is in
    let part = expr_made a at r.lets r.writes r.flow in
    let s = record r { flow = part.1 } in
    let is_s = run-later at r ws part.1 is p.front p.flow in
    let entry_s = entry-later r.flow.nodes part.1.nodes at p.front entry in
    let q = expr-is at s ws at.w e entry_s is_s we.is in
    let last = expr_made e at s.lets s.writes s.flow in
    let t = record s { flow = last.1 } in
    let is_t = run-later at s ws last.1 is_s q.front q.flow in
    let d = store-does at t ws part.0 last.0 (entry-later part.1.nodes last.1.nodes at q.front entry_s) is_t (bits-later part.1.nodes last.1.nodes at.a part.0 q.front p.bits) q.bits in
    let new = store_made at part.0 last.0 t in
    does_as at r new (stmt_made (Store a e) at r) after _ _ (mades.made-store a e at r) (λ values x. deeds.deed_of-store a e (entry_value values at) x)
    (subst (λ l. Does at r new l (λ values x. with_bits (value a (entry_value values at) x.lets x.window) (λ address. with_bits (value e (entry_value values at) x.lets x.window) (λ cell. store_deed x address cell)))) we.same
    (expr-does at r at.a part new ws (value a) (λ values o x. with_bits o (λ address. with_bits (value e (entry_value values at) x.lets x.window) (λ cell. store_deed x address cell))) (λ values x. refl) p
    (expr-does at s at.w last new ws (value e) (λ values o x. with_bits o (λ cell. store_deed x (number values part.0) cell)) (λ values x. refl) q d)))

-- ---- assignments

assign-right : (at : SymEntry) (r : SymRun) (place : ℕ) (ws : LetWidths) (next : ℕ) (after : LetWidths) (width : ℕ) (e : Expr) (old : List Gate) (put : List Gate → Next) (set_of : Run → ℕ → Run) → IsSymEntry (length r.flow.nodes) at → IsSymRun at r ws →
    wants width (judged_of (sym_setting at) e ws) place ws ≡ Keeps next after → Puts at r width old put set_of →
    Does at r (assigned (expr_made e at r.lets r.writes r.flow).0 old put (record r { flow = (expr_made e at r.lets r.writes r.flow).1 })) after
    (λ values q. with_bits (value e (entry_value values at) q.lets q.window) (λ x. Going (set_of q x)))
assign-right at r place ws next after width e old put set_of entry is h puts =
    let w = wants_keeps width (sym_setting at) e place ws next after h in
    let p = expr-is at r ws width e entry is w.is in
    let part = expr_made e at r.lets r.writes r.flow in
    let s = record r { flow = part.1 } in
    let is_s = run-later at r ws part.1 is p.front p.flow in
    let puts_s : Puts at s width old put set_of = record { old_bits = bits-later r.flow.nodes part.1.nodes width old p.front puts.old_bits; there = puts.there; stays = puts.stays; is_put = puts.is_put } in
    let d = assigned-does at s ws width part.0 old put set_of is_s p.bits puts_s in
    let new = assigned part.0 old put s in
    subst (λ l. Does at r new l (λ values q. with_bits (value e (entry_value values at) q.lets q.window) (λ x. Going (set_of q x)))) w.same
    (expr-does at r width part new ws (value e) (λ values o q. with_bits o (λ x. Going (set_of q x))) (λ values q. refl) p d)

right-pc : (e : Expr) → IsRightStmt (Pc e)
right-pc e at r place ws next after entry is h =
    does_as at r _ (stmt_made (Pc e) at r) after _ _ (mades.made-pc e at r) (λ values q. deeds.deed_of-pc e (entry_value values at) q)
    (assign-right at r place ws next after at.a e r.next.p (λ bits. record r.next { p = bits }) with_p entry is (sym (fares.fare_of-pc e (sym_setting at) place ws) ∙ h) (record {
      old_bits = is.next.p;
      there = λ places xs n b. record { mode = n.mode; p = b; l = n.l; b = n.b };
      stays = λ values xs k. ap (λ j. record (next_psw values r.next) { p = j }) k;
      is_put = λ values q xs k. ap (λ n. record q { next = record n { p = number values xs } }) (sym k);
    }))

right-mode : (e : Expr) → IsRightStmt (Mode e)
right-mode e at r place ws next after entry is h =
    does_as at r _ (stmt_made (Mode e) at r) after _ _ (mades.made-mode e at r) (λ values q. deeds.deed_of-mode e (entry_value values at) q)
    (assign-right at r place ws next after 1 e r.next.mode (λ bits. record r.next { mode = bits }) with_mode entry is (sym (fares.fare_of-mode e (sym_setting at) place ws) ∙ h) (record {
      old_bits = is.next.mode;
      there = λ places xs n b. record { mode = b; p = n.p; l = n.l; b = n.b };
      stays = λ values xs k. ap (λ j. record (next_psw values r.next) { mode = mode_of j }) k;
      is_put = λ values q xs k. ap (λ n. record q { next = record n { mode = mode_of (number values xs) } }) (sym k);
    }))

right-rel : (e : Expr) → IsRightStmt (Rel e)
right-rel e at r place ws next after entry is h =
    does_as at r _ (stmt_made (Rel e) at r) after _ _ (mades.made-rel e at r) (λ values q. deeds.deed_of-rel e (entry_value values at) q)
    (assign-right at r place ws next after at.a e r.next.l (λ bits. record r.next { l = bits }) with_l entry is (sym (fares.fare_of-rel e (sym_setting at) place ws) ∙ h) (record {
      old_bits = is.next.l;
      there = λ places xs n b. record { mode = n.mode; p = n.p; l = b; b = n.b };
      stays = λ values xs k. ap (λ j. record (next_psw values r.next) { l = j }) k;
      is_put = λ values q xs k. ap (λ n. record q { next = record n { l = number values xs } }) (sym k);
    }))

right-bound : (e : Expr) → IsRightStmt (Bound e)
right-bound e at r place ws next after entry is h =
    does_as at r _ (stmt_made (Bound e) at r) after _ _ (mades.made-bound e at r) (λ values q. deeds.deed_of-bound e (entry_value values at) q)
    (assign-right at r place ws next after at.a e r.next.b (λ bits. record r.next { b = bits }) with_b entry is (sym (fares.fare_of-bound e (sym_setting at) place ws) ∙ h) (record {
      old_bits = is.next.b;
      there = λ places xs n b. record { mode = n.mode; p = n.p; l = n.l; b = b };
      stays = λ values xs k. ap (λ j. record (next_psw values r.next) { b = j }) k;
      is_put = λ values q xs k. ap (λ n. record q { next = record n { b = number values xs } }) (sym k);
    }))

right-trap : IsRightStmt Trap
right-trap at r place ws next after entry is h =
    let same : ws ≡ after = cc (sym (fares.fare_of-trap (sym_setting at) place ws) ∙ h) in
    does_as at r (trap_made r) (stmt_made Trap at r) after _ _ (mades.made-trap at r) (λ values q. deeds.deed_of-trap (entry_value values at) q)
    (subst (λ l. Does at r (trap_made r) l (λ values q. Trapped)) same (trap-does at r ws is))

-- ---- blocks

pub in_order-right : (ss : List ((s : Stmt) × IsRightStmt s)) (at : SymEntry) (r : SymRun) (place : ℕ) (ws : LetWidths) (next : ℕ) (after : LetWidths) → IsSymEntry (length r.flow.nodes) at → IsSymRun at r ws →
    fares_in_order (map (fare_of (sym_setting at)) (map (λ p. p.0) ss)) place ws ≡ Keeps next after →
    Does at r (in_order_made (map stmt_made (map (λ p. p.0) ss)) at r) after (λ values q. in_order (map deed_of (map (λ p. p.0) ss)) (entry_value values at) q)
unfolding fares_in_order in_order in_order_made
in_order-right [] at r place ws next after entry is h = subst (λ l. Does at r r l (λ values q. Going q)) (cc h) (nothing-does at r ws is)
in_order-right (s ∷ ss) at r place ws next after entry is h =
    let f = then_fares_keeps (fare_of (sym_setting at) s.0 place ws) (λ n l. fares_in_order (map (fare_of (sym_setting at)) (map (λ p. p.0) ss)) n l) next after h in
    let d = s.1 at r place ws f.0 f.1 entry is f.2 in
    let t = stmt_made s.0 at r in
    let rest = in_order-right ss at t f.0 f.1 next after (entry-later r.flow.nodes t.flow.nodes at d.front entry) d.run f.3 in
    seq-does at r t _ f.1 after (λ values q. deed_of s.0 (entry_value values at) q) _ d rest

pub block-right : (ss : List ((s : Stmt) × IsRightStmt s)) (at : SymEntry) (place : ℕ) (ws : LetWidths) (next : ℕ) (after : LetWidths) →
    after_block ws (fares_in_order (map (fare_of (sym_setting at)) (map (λ p. p.0) ss)) place ws) ≡ Keeps next after →
    IsArm at ws (block_made (map stmt_made (map (λ p. p.0) ss))) (λ values q. block_deed (map deed_of (map (λ p. p.0) ss)) (entry_value values at) q)
block-right ss at place ws next after h r entry is =
    let b = after_block_keeps ws (fares_in_order (map (fare_of (sym_setting at)) (map (λ p. p.0) ss)) place ws) next after h in (
      block-does at r (in_order_made (map stmt_made (map (λ p. p.0) ss)) at r) ws b.0 (λ values q. in_order (map deed_of (map (λ p. p.0) ss)) (entry_value values at) q) is.lets
          (in_order-right ss at r place ws next b.0 entry is b.1),
      refl,
    )

pub else-right : (o : Option (List ((s : Stmt) × IsRightStmt s))) (at : SymEntry) (place : ℕ) (ws : LetWidths) (next : ℕ) (after : LetWidths) →
    after_block ws (fares_if_any (option_map (map (fare_of (sym_setting at))) (option_map (map (λ p. p.0)) o)) place ws) ≡ Keeps next after →
    IsArm at ws (else_made (option_map (map stmt_made) (option_map (map (λ p. p.0)) o))) (λ values q. else_deed (option_map (map deed_of) (option_map (map (λ p. p.0)) o)) (entry_value values at) q)
else-right None at place ws next after h r entry is = (nothing-does at r ws is, refl)
else-right (Some ss) at place ws next after h r entry is = block-right ss at place ws next after h r entry is

-- ---- if

tested : (b : Bool) (t : ℕ) (x y : Course Run) → t ≡ bit_number b → (if t == 1 then x else y) ≡ cond b x y
tested true t x y e = ap (λ k. if k == 1 then x else y) e
tested false t x y e = ap (λ k. if k == 1 then x else y) e

right-if : (c : Expr) (held : List ((s : Stmt) × IsRightStmt s)) (o : Option (List ((s : Stmt) × IsRightStmt s))) → IsRightStmt (If c (map (λ p. p.0) held) (option_map (map (λ p. p.0)) o))
right-if c held o at r place ws next after entry is h =
    let f = then_fares_keeps (wants 1 (judged_of (sym_setting at) c ws) place ws)
    (λ n same. then_fares (after_block ws (fares_in_order (map (fare_of (sym_setting at)) (map (λ p. p.0) held)) n ws)) (λ later inner.
    after_block ws (fares_if_any (option_map (map (fare_of (sym_setting at))) (option_map (map (λ p. p.0)) o)) later ws))) next after
    (sym (fares.fare_of-if c (map (λ p. p.0) held) (option_map (map (λ p. p.0)) o) (sym_setting at) place ws) ∙ h) in
    let w = wants_keeps 1 (sym_setting at) c place ws f.0 f.1 f.2 in
    let g = then_fares_keeps (after_block ws (fares_in_order (map (fare_of (sym_setting at)) (map (λ p. p.0) held)) f.0 ws)) (λ later inner.
    after_block ws (fares_if_any (option_map (map (fare_of (sym_setting at))) (option_map (map (λ p. p.0)) o)) later ws)) next after f.3 in
    let k = after_block_keeps ws (fares_if_any (option_map (map (fare_of (sym_setting at))) (option_map (map (λ p. p.0)) o)) g.0 ws) next after g.3 in
    let held_deed = block_made (map stmt_made (map (λ p. p.0) held)) in
    let other_deed = else_made (option_map (map stmt_made) (option_map (map (λ p. p.0)) o)) in
    let p = expr-is at r ws 1 c entry is w.is in
    let part = expr_made c at r.lets r.writes r.flow in
    let s = record r { flow = part.1 } in
    let is_s = run-later at r ws part.1 is p.front p.flow in
    let entry_s = entry-later r.flow.nodes part.1.nodes at p.front entry in
    let new = if_made held_deed other_deed at (bit_0 part.0) s in
    let first : List Bool → Run → Course Run = λ values q. block_deed (map deed_of (map (λ x. x.0) held)) (entry_value values at) q in
    let second : List Bool → Run → Course Run = λ values q. else_deed (option_map (map deed_of) (option_map (map (λ x. x.0)) o)) (entry_value values at) q in
    let d = if-does at s ws (bit_0 part.0) held_deed other_deed first second entry_s is_s (bit_0-there (length part.1.nodes) part.0 p.bits)
    (block-right held at f.0 ws g.0 g.1 g.2) (else-right o at g.0 ws next after g.3) in
    let e = does_as at s new new ws _ (λ values q. if number values part.0 == 1 then first values q else second values q) refl
    (λ values q. tested (gate_value values (bit_0 part.0)) (number values part.0) (first values q) (second values q) (number-bit_0 values part.0 p.bits.wide)) d in
    does_as at r new (stmt_made (If c (map (λ x. x.0) held) (option_map (map (λ x. x.0)) o)) at r) after _ _ (mades.made-if c (map (λ x. x.0) held) (option_map (map (λ x. x.0)) o) at r)
    (λ values q. deeds.deed_of-if c (map (λ x. x.0) held) (option_map (map (λ x. x.0)) o) (entry_value values at) q)
    (subst (λ l. Does at r new l (λ values q. with_bits (value c (entry_value values at) q.lets q.window) (λ test. (if test == 1 then first values q else second values q)))) k.2
    (expr-does at r 1 part new ws (value c) (λ values b q. with_bits b (λ test. (if test == 1 then first values q else second values q))) (λ values q. refl) p e))

layer : (y : Open.Stmt-F ((s : Stmt) × IsRightStmt s)) → IsRightStmt (roll-Stmt (map-Stmt ((s : Stmt) × IsRightStmt s) Stmt (λ p. p.0) y))
layer (Open.Let n e) = subst IsRightStmt (sym (rolls-Let n e)) (right-let n e)
layer (Open.Store a e) = subst IsRightStmt (sym (rolls-Store a e)) (right-store a e)
layer (Open.Pc e) = subst IsRightStmt (sym (rolls-Pc e)) (right-pc e)
layer (Open.Mode e) = subst IsRightStmt (sym (rolls-Mode e)) (right-mode e)
layer (Open.Rel e) = subst IsRightStmt (sym (rolls-Rel e)) (right-rel e)
layer (Open.Bound e) = subst IsRightStmt (sym (rolls-Bound e)) (right-bound e)
layer Open.Trap = subst IsRightStmt (sym rolls-Trap) right-trap
layer (Open.If c held None) = subst IsRightStmt (sym (rolls-If c (map (λ p. p.0) held) None)) (right-if c held None)
layer (Open.If c held (Some other)) = subst IsRightStmt (sym (rolls-If c (map (λ p. p.0) held) (Some (map (λ p. p.0) other)))) (right-if c held (Some other))

-- every statement is made right
pub stmt_right : (s : Stmt) → IsRightStmt s
stmt_right = ind-Stmt IsRightStmt (λ x y is. subst (λ z. IsRightStmt (roll-Stmt z)) is (layer y))
