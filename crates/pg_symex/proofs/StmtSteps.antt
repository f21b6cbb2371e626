-- What the code's statements are due to make, and what they may rest on.
use Rattle.std.proofs.Common.{◌≡◌, ℕ, Bool, List, [], ◌∷◌, length, map, Option, Some, IsSome, Result, Ok, Err, refl, sym, ap, ◌∙◌, subst}
use Rattle.std.specs.Prelude.{OnOk}
use Rattle.std.specs.Option.{option_map}
use Rattle.pg_circuit.specs.declared.node.Gate.{Gate}
use Rattle.pg_circuit.specs.declared.node.Node.{Node}
use Rattle.pg_vec.specs.Strings.{mux_made}
use Rattle.pg_cells.specs.declared.cell.Cell.{Cell}
use Rattle.pg_cells.specs.declared.cell.Write.{Write}
use Rattle.pg_cells.specs.View.{View}
use Rattle.pg_cells.specs.Over.{IsOver}
use Rattle.pg_ast.specs.declared.name.Name.{Name as Names}
use Rattle.pg_ast.specs.declared.tree.Expr.{Expr}
use Rattle.pg_ast.specs.declared.tree.Stmt.{Stmt}
use Rattle.pg_ast.specs.declared.tree.Stmt.TheVariants.{Let, Store, Pc, Mode, Rel, Bound, If}
use Rattle.pg_lang_meaning.specs.Bodies.{Course, Run as Runs}
use Rattle.pg_lang_valid.specs.Widths.{LetWidths, judged_of, width_of, Keeps, wants, then_fares, Faring, fares_in_order, fares_if_any, after_block, fare_of}
use Rattle.pg_lang_valid.proofs.DeedSound.{wants_keeps, then_fares_keeps, binds_keeps}
use Rattle.pg_lang_valid.proofs.FareEquations as fares
use Rattle.pg_symex.specs.declared.guards.Guards.{Guards}
use Rattle.pg_symex.specs.declared.run.Run.{Run}
use Rattle.pg_symex.specs.declared.regs.Next.{Next}
use Rattle.pg_symex.specs.Flow.{SymEntry, SymLets, Flow, SymRun}
use Rattle.pg_symex.specs.FlowView.{flow_as}
use Rattle.pg_symex.specs.There.{AreBits, sym_setting, LetsAre, IsFlow}
use Rattle.pg_symex.specs.Exprs.{access_made}
use Rattle.pg_symex.specs.Stmts.{with_expr, assigned, stmt_made}
use Rattle.pg_symex.specs.Ends.{IsSymRun, Does}
use Rattle.pg_symex.specs.Calls.{widths_of, IsTyped}
use Rattle.pg_symex.specs.RunView.{run_as, IsUnderWay, Fares, FaresInBlock, IsDone, IsTaken}
use Rattle.pg_symex.proofs.ExprForms.{entry-later}
use Rattle.pg_symex.proofs.StmtForms.{run-later}
use Rattle.pg_symex.proofs.AccessLaws.{accessed}
use Rattle.pg_symex.proofs.ExprSteps.{writes_same}

-- ---- a store's access

pub store_flow : (at : SymEntry) (n0 n1 : List Node) (t : View) (r : Run) (g : Guards) (address : List Gate) → IsUnderWay at n0 t r → AreBits (length n0) at.a address →
    ((cells : List Cell) → flow_as n1 cells g ≡ access_made at (flow_as n0 cells r.guards) address) → IsFlow at t.writes (flow_as n1 t.cells g)
store_flow at n0 n1 t r g address u b a =
    let h = accessed at t.writes (flow_as n0 t.cells r.guards) address u.run.flow u.entry b in
    let k : access_made at (flow_as n0 t.cells r.guards) address ≡ flow_as n1 t.cells g = sym (a t.cells) in
    subst (λ (f : Flow). IsFlow at t.writes f) k h.flow

pub store_over : (at : SymEntry) (n0 n1 : List Node) (t : View) (r : Run) (g : Guards) (address : List Gate) → IsUnderWay at n0 t r → AreBits (length n0) at.a address →
    ((cells : List Cell) → flow_as n1 cells g ≡ access_made at (flow_as n0 cells r.guards) address) → IsOver n1 t
store_over at n0 n1 t r g address u b a = subst (λ (v : View). IsOver n1 v) (sym u.view) ((store_flow at n0 n1 t r g address u b a).over)

-- ---- widths

pub lets_widths : (places : ℕ) (lets : SymLets) (ws : LetWidths) → LetsAre places lets ws → ws ≡ widths_of lets
lets_widths places [] [] h = refl
lets_widths places [] (w ∷ ws) h = absurd h
lets_widths places (l ∷ ls) [] h = absurd h
lets_widths places (l ∷ ls) (w ∷ ws) h =
    ap (λ (vs : LetWidths). w ∷ vs) (lets_widths places ls ws h.2)
    ∙ ap (λ (name : List ℕ). (name, w.1) ∷ widths_of ls) (sym h.0)
    ∙ ap (λ (n : ℕ). (l.0, n) ∷ widths_of ls) (sym h.1.wide)

-- ---- what goes on

pub under_way : (at : SymEntry) (n0 n : List Node) (t0 t : View) (r0 r : Run) (due : SymRun) (after : LetWidths) (meant : List Bool → Runs → Course Runs) → IsUnderWay at n0 t0 r0 → Does at (run_as n0 t0 r0) due after meant → IsDone due t0 n t r →
    IsUnderWay at n t r
under_way at n0 n t0 t r0 r due after meant u d done =
    let is : Does at (run_as n0 t0 r0) (run_as n t r) after meant = subst (λ (k : SymRun). Does at (run_as n0 t0 r0) k after meant) (sym done.made) d in
    record {
      entry = entry-later n0 n at is.front u.entry;
      view = done.view ∙ ap (λ (v : View). record v { cells = t.cells; writes = t.writes }) u.view;
      run = subst (IsSymRun at (run_as n t r)) (lets_widths (length n) r.lets after is.run.lets) is.run;
    }

taken_run : (at : SymEntry) (e : Expr) (n0 n1 : List Node) (t0 t1 : View) (r0 r1 : Run) (bits : List Gate) → IsTaken at e n0 t0 r0 bits n1 t1 r1 →
    run_as n1 t1 r1 ≡ (let k : SymRun = record (run_as n0 t0 r0) { flow = flow_as n1 t1.cells r1.guards } in k)
taken_run at e n0 n1 t0 t1 r0 r1 bits h =
    ap (λ (r : Run). let k : SymRun = record { flow = flow_as n1 t1.cells r1.guards; writes = t1.writes; trap = r.trap; next = r.next; lets = r.lets } in k) h.same
    ∙ ap (λ (ws : List Write). let k : SymRun = record { flow = flow_as n1 t1.cells r1.guards; writes = ws; trap = r0.trap; next = r0.next; lets = r0.lets } in k) (writes_same h.made)

pub taken : (at : SymEntry) (e : Expr) (n0 n1 : List Node) (t0 t1 : View) (r0 r1 : Run) (bits : List Gate) (next : List Gate → SymRun → SymRun) → IsTaken at e n0 t0 r0 bits n1 t1 r1 →
    next bits (run_as n1 t1 r1) ≡ with_expr e at (run_as n0 t0 r0) next
taken at e n0 n1 t0 t1 r0 r1 bits next h =
    ap (next bits) (taken_run at e n0 n1 t0 t1 r0 r1 bits h)
    ∙ ap (λ (m : List Gate × Flow). next m.0 (let k : SymRun = record (run_as n0 t0 r0) { flow = m.1 } in k)) h.made.made

pub lets_same : {at : SymEntry} {e : Expr} {n0 : List Node} {t0 : View} {r0 : Run} {bits : List Gate} {n1 : List Node} {t1 : View} {r1 : Run} → IsTaken at e n0 t0 r0 bits n1 t1 r1 → r1.lets ≡ r0.lets
lets_same h = ap (λ (r : Run). r.lets) h.same

pub taken_ready : (at : SymEntry) (e : Expr) (n0 n1 : List Node) (t0 t1 : View) (r0 r1 : Run) (bits : List Gate) → IsUnderWay at n0 t0 r0 → IsTaken at e n0 t0 r0 bits n1 t1 r1 → IsUnderWay at n1 t1 r1
taken_ready at e n0 n1 t0 t1 r0 r1 bits u h =
    let f1 = flow_as n1 t1.cells r1.guards in
    let later = run-later at (run_as n0 t0 r0) (widths_of r0.lets) f1 u.run h.value.front (subst (λ (ws : List Write). IsFlow at ws f1) (writes_same h.made) h.value.ready.flow) in
    let there = subst (λ (k : SymRun). IsSymRun at k (widths_of r0.lets)) (sym (taken_run at e n0 n1 t0 t1 r0 r1 bits h)) later in
    record {
      entry = h.value.ready.entry;
      view = h.value.ready.view;
      run = subst (λ (ls : SymLets). IsSymRun at (run_as n1 t1 r1) (widths_of ls)) (sym (lets_same h)) there;
    }

-- a statement of one expression, and what is made of its bits
view_wide : (t0 t1 t2 : View) → t1 ≡ record t0 { cells = t1.cells } → t2 ≡ record t1 { cells = t2.cells; writes = t2.writes } → t2 ≡ record t0 { cells = t2.cells; writes = t2.writes }
view_wide t0 t1 t2 h k = k ∙ ap (λ (v : View). record v { cells = t2.cells; writes = t2.writes }) h

pub done_form : {E : Type 0} (at : SymEntry) (s form : Stmt) (e : Expr) (n0 n1 n2 : List Node) (t0 t1 t2 : View) (r0 r1 r2 : Run) (bits : List Gate) (act : List Gate → SymRun → SymRun) (r : Result (Unit {0}) E) → s ≡ form →
    stmt_made form at (run_as n0 t0 r0) ≡ with_expr e at (run_as n0 t0 r0) act → IsTaken at e n0 t0 r0 bits n1 t1 r1 →
    OnOk r (run_as n2 t2 r2 ≡ act bits (run_as n1 t1 r1)) → t2 ≡ record t1 { cells = t2.cells; writes = t2.writes } → OnOk r (IsDone (stmt_made s at (run_as n0 t0 r0)) t0 n2 t2 r2)
done_form at s form e n0 n1 n2 t0 t1 t2 r0 r1 r2 bits act (Err x) is eq h k v = tt
done_form at s form e n0 n1 n2 t0 t1 t2 r0 r1 r2 bits act (Ok u) is eq h k v = record {
  made = k ∙ taken at e n0 n1 t0 t1 r0 r1 bits act h ∙ sym eq ∙ ap (λ z. stmt_made z at (run_as n0 t0 r0)) (sym is);
  view = view_wide t0 t1 t2 h.made.view v;
}

pub assigned_step : {E : Type 0} (n1 n2 : List Node) (t : View) (r1 : Run) (bits old new : List Gate) (put : List Gate → Next) (r : Result (Unit {0}) E) → OnOk r ((new, n2) ≡ mux_made n1 r1.guards.live bits old) →
    OnOk r (run_as n2 t (record r1 { next = put new }) ≡ assigned bits old put (run_as n1 t r1))
unfolding assigned
assigned_step n1 n2 t r1 bits old new put (Err x) h = tt
assigned_step n1 n2 t r1 bits old new put (Ok u) h = ap (λ (m : List Gate × List Node). run_as m.1 t (record r1 { next = put m.0 })) h

-- ---- what statements want of their expressions

is_typed : (at : SymEntry) (lets : SymLets) (e : Expr) (n : ℕ) → width_of (sym_setting at) e (widths_of lets) ≡ Some n → IsTyped at lets e
is_typed at lets e n h = record { some = subst IsSome (sym h) refl }

pub as_form : (at : SymEntry) (s form : Stmt) (r : Run) → s ≡ form → Fares (fare_of (sym_setting at) s) r → Fares (fare_of (sym_setting at) form) r
as_form at s form r e h = subst (λ z. Fares (fare_of (sym_setting at) z) r) e h

pub let_typed : (at : SymEntry) (s : Stmt) (r : Run) (m : Names) (e : Expr) → s ≡ Let m e → Fares (fare_of (sym_setting at) s) r → IsTyped at r.lets e
let_typed at s r m e is h =
    let f = as_form at s (Let m e) r is h in
    let b = binds_keeps m.bytes (sym_setting at) e f.place (widths_of r.lets) f.then_place f.after (sym (fares.fare_of-let m e (sym_setting at) f.place (widths_of r.lets)) ∙ f.keeps) in
    is_typed at r.lets e b.0 b.1

-- an expression of a width
abbrev pub HasWidth : SymEntry → Run → Expr → ℕ → Type 0
HasWidth at r e n = width_of (sym_setting at) e (widths_of r.lets) ≡ Some n

pub pc_width : (at : SymEntry) (s : Stmt) (r : Run) (e : Expr) → s ≡ Pc e → Fares (fare_of (sym_setting at) s) r → HasWidth at r e at.a
pc_width at s r e is h = let f = as_form at s (Pc e) r is h in
    (wants_keeps at.a _ _ f.place (widths_of r.lets) f.then_place f.after (sym (fares.fare_of-pc e (sym_setting at) f.place (widths_of r.lets)) ∙ f.keeps)).is

pub mode_width : (at : SymEntry) (s : Stmt) (r : Run) (e : Expr) → s ≡ Mode e → Fares (fare_of (sym_setting at) s) r → HasWidth at r e 1
mode_width at s r e is h = let f = as_form at s (Mode e) r is h in
    (wants_keeps 1 _ _ f.place (widths_of r.lets) f.then_place f.after (sym (fares.fare_of-mode e (sym_setting at) f.place (widths_of r.lets)) ∙ f.keeps)).is

pub rel_width : (at : SymEntry) (s : Stmt) (r : Run) (e : Expr) → s ≡ Rel e → Fares (fare_of (sym_setting at) s) r → HasWidth at r e at.a
rel_width at s r e is h = let f = as_form at s (Rel e) r is h in
    (wants_keeps at.a _ _ f.place (widths_of r.lets) f.then_place f.after (sym (fares.fare_of-rel e (sym_setting at) f.place (widths_of r.lets)) ∙ f.keeps)).is

pub bound_width : (at : SymEntry) (s : Stmt) (r : Run) (e : Expr) → s ≡ Bound e → Fares (fare_of (sym_setting at) s) r → HasWidth at r e at.a
bound_width at s r e is h = let f = as_form at s (Bound e) r is h in
    (wants_keeps at.a _ _ f.place (widths_of r.lets) f.then_place f.after (sym (fares.fare_of-bound e (sym_setting at) f.place (widths_of r.lets)) ∙ f.keeps)).is

pub store_widths : (at : SymEntry) (s : Stmt) (r : Run) (a e : Expr) → s ≡ Store a e → Fares (fare_of (sym_setting at) s) r → HasWidth at r a at.a × HasWidth at r e at.w
store_widths at s r a e is h =
    let f = as_form at s (Store a e) r is h in
    let ws = widths_of r.lets in
    let k = then_fares_keeps (wants at.a (judged_of (sym_setting at) a ws) f.place ws) (λ n same. wants at.w (judged_of (sym_setting at) e ws) f.place ws) f.then_place f.after (sym (fares.fare_of-store a e (sym_setting at) f.place ws) ∙ f.keeps) in
    ((wants_keeps at.a _ _ f.place ws k.0 k.1 k.2).is, (wants_keeps at.w _ _ f.place ws f.then_place f.after k.3).is)

pub typed_of : (at : SymEntry) (r : Run) (e : Expr) (n : ℕ) → HasWidth at r e n → IsTyped at r.lets e
typed_of at r e n h = is_typed at r.lets e n h

-- the same where the lets are those
pub width_later : (at : SymEntry) (r0 r1 : Run) (e : Expr) (n : ℕ) → r1.lets ≡ r0.lets → HasWidth at r0 e n → HasWidth at r1 e n
width_later at r0 r1 e n s h = subst (λ (ls : SymLets). width_of (sym_setting at) e (widths_of ls) ≡ Some n) (sym s) h

-- the bits of an expression have the width that it has
pub taken_bits : (at : SymEntry) (e : Expr) (n0 n1 : List Node) (t0 t1 : View) (r0 r1 : Run) (bits : List Gate) (n : ℕ) → IsTaken at e n0 t0 r0 bits n1 t1 r1 → HasWidth at r0 e n → AreBits (length n1) n bits
taken_bits at e n0 n1 t0 t1 r0 r1 bits n h w =
    let same : length bits ≡ n = cc (sym h.value.width ∙ w) in
    subst (λ k. AreBits (length n1) k bits) same h.value.are_bits

pub record IfFares (at : SymEntry) (r : Run) (c : Expr) (held : List Stmt) (other : Option (List Stmt)) : Type 0 where
  pub test : HasWidth at r c 1
  pub held_fares : FaresInBlock (fares_in_order (map (fare_of (sym_setting at)) held)) r
  pub other_fares : FaresInBlock (fares_if_any (option_map (map (fare_of (sym_setting at))) other)) r

pub if_fares : (at : SymEntry) (s : Stmt) (r : Run) (c : Expr) (held : List Stmt) (other : Option (List Stmt)) → s ≡ If c held other → Fares (fare_of (sym_setting at) s) r → IfFares at r c held other
if_fares at s r c held other is h =
    let f = as_form at s (If c held other) r is h in
    let ws = widths_of r.lets in
    let k = then_fares_keeps (wants 1 (judged_of (sym_setting at) c ws) f.place ws)
    (λ n same. then_fares (after_block ws (fares_in_order (map (fare_of (sym_setting at)) held) n ws)) (λ later inner. after_block ws (fares_if_any (option_map (map (fare_of (sym_setting at))) other) later ws)))
    f.then_place f.after (sym (fares.fare_of-if c held other (sym_setting at) f.place ws) ∙ f.keeps) in
    let g = then_fares_keeps (after_block ws (fares_in_order (map (fare_of (sym_setting at)) held) k.0 ws)) (λ later inner. after_block ws (fares_if_any (option_map (map (fare_of (sym_setting at))) other) later ws)) f.then_place f.after k.3 in
    record {
      test = (wants_keeps 1 _ _ f.place ws k.0 k.1 k.2).is;
      held_fares = record { place = k.0; then_place = g.0; after = g.1; keeps = g.2 };
      other_fares = record { place = g.0; then_place = f.then_place; after = f.after; keeps = g.3 };
    }

pub block_later : (f : Faring) (r0 r1 : Run) → r1.lets ≡ r0.lets → FaresInBlock f r0 → FaresInBlock f r1
block_later f r0 r1 s h = record {
  place = h.place;
  then_place = h.then_place;
  after = h.after;
  keeps = subst (λ (ls : SymLets). after_block (widths_of ls) (f h.place (widths_of ls)) ≡ Keeps h.then_place h.after) (sym s) h.keeps;
}
