-- Blocks and ifs in code: what goes on after them, and what they are due to make.
use Rattle.std.proofs.Common.{◌≡◌, ℕ, zero, suc, ◌+◌, ◌-◌, ◌<◌, ◌≤◌, List, [], ◌∷◌, length, map, drop, get_or, Option, None, Some, refl, sym, ap, ◌∙◌, subst, arith}
use Rattle.std.specs.Option.{option_map}
use Rattle.std.proofs.lemmas.List.{drop-drop}
use Rattle.pg_circuit.specs.declared.node.Gate.{Gate}
use Rattle.pg_circuit.specs.declared.node.Node.{Node}
use Rattle.pg_circuit.specs.Nodes.{IsCircuit}
use Rattle.pg_circuit.specs.Grown.{GrowsTo}
use Rattle.pg_circuit.specs.Made.{not_gate, and_made}
use Rattle.pg_circuit.specs.Values.{IsThere}
use Rattle.pg_vec.specs.Gates.{or_made}
use Rattle.pg_vec.proofs.Kept.{front_same, front_then}
use Rattle.pg_cells.specs.View.{View}
use Rattle.pg_ast.specs.declared.tree.Expr.{Expr}
use Rattle.pg_ast.specs.declared.tree.Stmt.{Stmt}
use Rattle.pg_ast.specs.declared.tree.Stmt.TheVariants.{If, rolls-Let, rolls-Store, rolls-Pc, rolls-Mode, rolls-Rel, rolls-Bound, rolls-Trap, rolls-If}
use Rattle.pg_ast.specs.declared.tree.Stmt.TheOpen as Open
use Rattle.pg_ast.specs.declared.tree.Stmt.TheFolds.{ind-Stmt, map-Stmt}
use Rattle.pg_ast.specs.declared.tree.Stmt.TheViews.{roll-Stmt}
use Rattle.pg_lang_meaning.specs.Bodies.{in_order, block_deed, deed_of}
use Rattle.pg_lang_valid.specs.Limits.{Tally, both, all_of, if_any, stmt_tally}
use Rattle.pg_lang_valid.specs.Widths.{LetWidths, Keeps, fares_in_order, fares_if_any, after_block, fare_of}
use Rattle.pg_lang_valid.proofs.DeedSound.{then_fares_keeps}
use Rattle.pg_lang_valid.proofs.CheckStmtEquations.{stmt_tally-if}
use Rattle.pg_symex.specs.declared.run.Run.{Run}
use Rattle.pg_symex.specs.Flow.{SymEntry, SymLets, SymRun}
use Rattle.pg_symex.specs.Numbers.{entry_value}
use Rattle.pg_symex.specs.There.{IsSymEntry, sym_setting}
use Rattle.pg_symex.specs.Stmts.{SymDeed, assigned, trap_made, with_lets_of, with_live, joined_made, other_made, if_made, in_order_made, block_made, else_made, stmt_made}
use Rattle.pg_symex.specs.Ends.{IsSymRun, Does}
use Rattle.pg_symex.specs.Calls.{widths_of, AddsFew, stmts_cost}
use Rattle.pg_symex.specs.RunView.{run_as, IsUnderWay, Fares, FaresInBlock, IsDone}
use Rattle.pg_symex.proofs.StmtEquations as mades
use Rattle.pg_symex.proofs.ExprForms.{entry-later}
use Rattle.pg_symex.proofs.IfForms.{guard-run}
use Rattle.pg_symex.proofs.StmtForms.{nothing-does}
use Rattle.pg_symex.proofs.StmtLaw.{stmt_right, in_order-right, block-right}
use Rattle.pg_symex.proofs.RunLaw.{with_proofs, with_proofs-first}
use Rattle.pg_symex.proofs.WriteCounts.{stmt_done_writes}
use Rattle.pg_symex.proofs.StmtSteps.{under_way, lets_widths}

-- ---- lets

-- the lets that were visible are visible still, under those that came since
abbrev pub LetsStay : SymLets → SymLets → Type 0
LetsStay old new = (k : ℕ) × (drop k new ≡ old) × (length new ≡ k + length old)

same_lets : (old new : SymLets) → new ≡ old → LetsStay old new
same_lets old new e = (0, e, omega (arith, ap length e))

drop-drop-lets : (j k : ℕ) (a b c : SymLets) → drop j b ≡ a → drop k c ≡ b → drop (k + j) c ≡ a
drop-drop-lets j k a b c h g = sym (drop-drop j k c) ∙ ap (drop j) g ∙ h

lets_then : (a b c : SymLets) → LetsStay a b → LetsStay b c → LetsStay a c
lets_then a b c h g = (g.0 + h.0, drop-drop-lets h.0 g.0 a b c h.1 g.1, omega (arith, h.2, g.2))

abbrev pub KeepsLets : Stmt → Type 0
KeepsLets s = (at : SymEntry) (r : SymRun) → LetsStay r.lets ((stmt_made s at r).lets)

lets_of : (at : SymEntry) (r new due : SymRun) → due ≡ new → LetsStay r.lets new.lets → LetsStay r.lets due.lets
lets_of at r new due e h = subst (λ (k : SymRun). LetsStay r.lets k.lets) (sym e) h

lets_layer : (y : Open.Stmt-F ((s : Stmt) × KeepsLets s)) → KeepsLets (roll-Stmt (map-Stmt ((s : Stmt) × KeepsLets s) Stmt (λ p. p.0) y))
unfolding assigned trap_made if_made joined_made
lets_layer (Open.Let n e) = subst KeepsLets (sym (rolls-Let n e)) (λ at r. lets_of at r _ _ (mades.made-let n e at r) (1, refl, omega arith))
lets_layer (Open.Store a e) = subst KeepsLets (sym (rolls-Store a e)) (λ at r. lets_of at r _ _ (mades.made-store a e at r) (same_lets _ _ refl))
lets_layer (Open.Pc e) = subst KeepsLets (sym (rolls-Pc e)) (λ at r. lets_of at r _ _ (mades.made-pc e at r) (same_lets _ _ refl))
lets_layer (Open.Mode e) = subst KeepsLets (sym (rolls-Mode e)) (λ at r. lets_of at r _ _ (mades.made-mode e at r) (same_lets _ _ refl))
lets_layer (Open.Rel e) = subst KeepsLets (sym (rolls-Rel e)) (λ at r. lets_of at r _ _ (mades.made-rel e at r) (same_lets _ _ refl))
lets_layer (Open.Bound e) = subst KeepsLets (sym (rolls-Bound e)) (λ at r. lets_of at r _ _ (mades.made-bound e at r) (same_lets _ _ refl))
lets_layer Open.Trap = subst KeepsLets (sym rolls-Trap) (λ at r. lets_of at r _ _ (mades.made-trap at r) (same_lets _ _ refl))
lets_layer (Open.If c held None) = subst KeepsLets (sym (rolls-If c (map (λ p. p.0) held) None)) (λ at r. lets_of at r _ _ (mades.made-if c (map (λ p. p.0) held) None at r) (same_lets _ _ refl))
lets_layer (Open.If c held (Some other)) =
    subst KeepsLets (sym (rolls-If c (map (λ p. p.0) held) (Some (map (λ p. p.0) other)))) (λ at r. lets_of at r _ _ (mades.made-if c (map (λ p. p.0) held) (Some (map (λ p. p.0) other)) at r) (same_lets _ _ refl))

stmt_lets : (s : Stmt) → KeepsLets s
stmt_lets = ind-Stmt KeepsLets (λ x y is. subst (λ z. KeepsLets (roll-Stmt z)) is (lets_layer y))

in_order_lets : (ss : List Stmt) (at : SymEntry) (r : SymRun) → LetsStay r.lets ((in_order_made (map stmt_made ss) at r).lets)
unfolding in_order_made
in_order_lets [] at r = same_lets _ _ refl
in_order_lets (s ∷ ss) at r = lets_then r.lets ((stmt_made s at r).lets) _ (stmt_lets s at r) (in_order_lets ss at (stmt_made s at r))

-- after the statements of a block, those lets are the oldest
pub outer_lets : (at : SymEntry) (ss : List Stmt) (n0 n : List Node) (t0 t : View) (r0 r : Run) → IsDone (in_order_made (map stmt_made ss) at (run_as n0 t0 r0)) t0 n t r →
    (length r0.lets ≤ length r.lets) × (drop (length r.lets - length r0.lets) r.lets ≡ r0.lets)
outer_lets at ss n0 n t0 t r0 r done =
    let h = subst (λ (k : SymRun). LetsStay r0.lets k.lets) (sym done.made) (in_order_lets ss at (run_as n0 t0 r0)) in
    let size = h.2 in
    (omega (arith, size), ap (λ k. drop k r.lets) (let e : length r.lets - length r0.lets ≡ h.0 = omega (arith, size) in e) ∙ h.1)

-- ---- what goes on

in_order_does : (ss : List Stmt) (at : SymEntry) (r : SymRun) (place : ℕ) (ws : LetWidths) (next : ℕ) (after : LetWidths) → IsSymEntry (length r.flow.nodes) at → IsSymRun at r ws →
    fares_in_order (map (fare_of (sym_setting at)) ss) place ws ≡ Keeps next after → Does at r (in_order_made (map stmt_made ss) at r) after (λ values q. in_order (map deed_of ss) (entry_value values at) q)
in_order_does ss at r place ws next after entry is =
    let P : List Stmt → Type 0 = λ zs. fares_in_order (map (fare_of (sym_setting at)) zs) place ws ≡ Keeps next after → Does at r (in_order_made (map stmt_made zs) at r) after (λ values q. in_order (map deed_of zs) (entry_value values at) q) in
    subst P (with_proofs-first ss) (λ h. in_order-right (with_proofs ss) at r place ws next after entry is h)

block_does : (ss : List Stmt) (at : SymEntry) (r : SymRun) (place : ℕ) (ws : LetWidths) (next : ℕ) (after : LetWidths) → IsSymEntry (length r.flow.nodes) at → IsSymRun at r ws →
    after_block ws (fares_in_order (map (fare_of (sym_setting at)) ss) place ws) ≡ Keeps next after → Does at r (block_made (map stmt_made ss) at r) ws (λ values q. block_deed (map deed_of ss) (entry_value values at) q)
block_does ss at r place ws next after entry is =
    let P : List Stmt → Type 0 = λ zs. after_block ws (fares_in_order (map (fare_of (sym_setting at)) zs) place ws) ≡ Keeps next after → Does at r (block_made (map stmt_made zs) at r) ws (λ values q. block_deed (map deed_of zs) (entry_value values at) q) in
    subst P (with_proofs-first ss) (λ h. (block-right (with_proofs ss) at place ws next after h r entry is).0)

pub block_ready : (at : SymEntry) (ss : List Stmt) (n0 n : List Node) (t0 t : View) (r0 r : Run) → IsUnderWay at n0 t0 r0 → FaresInBlock (fares_in_order (map (fare_of (sym_setting at)) ss)) r0 →
    IsDone (block_made (map stmt_made ss) at (run_as n0 t0 r0)) t0 n t r → IsUnderWay at n t r
block_ready at ss n0 n t0 t r0 r u f done =
    under_way at n0 n t0 t r0 r _ (widths_of r0.lets) _ u (block_does ss at (run_as n0 t0 r0) f.place (widths_of r0.lets) f.then_place f.after u.entry u.run f.keeps) done

-- a block leaves the lets as they were
pub block_lets : (at : SymEntry) (ss : List Stmt) (n0 n : List Node) (t0 t : View) (r0 r : Run) → IsDone (block_made (map stmt_made ss) at (run_as n0 t0 r0)) t0 n t r → r.lets ≡ r0.lets
block_lets at ss n0 n t0 t r0 r done = ap (λ (k : SymRun). k.lets) done.made

pub else_ready : (at : SymEntry) (o : Option (List Stmt)) (n0 n : List Node) (t0 t : View) (r0 r : Run) → IsUnderWay at n0 t0 r0 → FaresInBlock (fares_if_any (option_map (map (fare_of (sym_setting at))) o)) r0 →
    IsDone (else_made (option_map (map stmt_made) o) at (run_as n0 t0 r0)) t0 n t r → IsUnderWay at n t r
else_ready at None n0 n t0 t r0 r u f done = under_way at n0 n t0 t r0 r _ (widths_of r0.lets) _ u (nothing-does at (run_as n0 t0 r0) (widths_of r0.lets) u.run) done
else_ready at (Some ss) n0 n t0 t r0 r u f done =
    block_ready at ss n0 n t0 t r0 r u (record { place = f.place; then_place = f.then_place; after = f.after; keeps = f.keeps }) done

-- the same body under another guard
pub arm_ready : (at : SymEntry) (n0 n : List Node) (t : View) (r : Run) (live : Gate) → IsUnderWay at n0 t r → GrowsTo n0 n → IsCircuit n → IsThere (length n) live → IsUnderWay at n t (record r { guards = record r.guards { live = live } })
arm_ready at n0 n t r live u g c l = record {
  entry = entry-later n0 n at g u.entry;
  view = u.view;
  run = guard-run at (run_as n0 t r) (widths_of r.lets) live n u.run g c l;
}

-- ---- statements in order

-- statements of which the last are left to be made
pub record PartlyMade (at : SymEntry) (stmts left : List Stmt) (old : List Node) (t0 : View) (r0 : Run) (nodes : List Node) (t : View) (r : Run) : Type 0 where
  pub ready : IsUnderWay at nodes t r
  pub typed : Fares (fares_in_order (map (fare_of (sym_setting at)) left)) r
  pub made : in_order_made (map stmt_made left) at (run_as nodes t r) ≡ in_order_made (map stmt_made stmts) at (run_as old t0 r0)
  pub view : t ≡ record t0 { cells = t.cells; writes = t.writes }
  pub front : GrowsTo old nodes
  pub writes : length t.writes + (all_of (map stmt_tally left)).accesses ≤ length t0.writes + (all_of (map stmt_tally stmts)).accesses
  pub few : length t0.writes + (all_of (map stmt_tally stmts)).accesses ≤ 72 → length nodes + stmts_cost (all_of (map stmt_tally left)) ≤ length old + stmts_cost (all_of (map stmt_tally stmts))

pub way_begins : (at : SymEntry) (ss : List Stmt) (n : List Node) (t : View) (r : Run) → IsUnderWay at n t r → Fares (fares_in_order (map (fare_of (sym_setting at)) ss)) r → PartlyMade at ss ss n t r n t r
way_begins at ss n t r u f = record { ready = u; typed = f; made = refl; view = refl; front = front_same n; writes = omega arith; few = λ w. omega arith }

pub way_first : (at : SymEntry) (ss left : List Stmt) (s : Stmt) (rest : List Stmt) (n0 n : List Node) (t0 t : View) (r0 r : Run) → left ≡ s ∷ rest → PartlyMade at ss left n0 t0 r0 n t r → Fares (fare_of (sym_setting at) s) r
unfolding fares_in_order
way_first at ss left s rest n0 n t0 t r0 r e h =
    let f = subst (λ zs. Fares (fares_in_order (map (fare_of (sym_setting at)) zs)) r) e h.typed in
    let k = then_fares_keeps (fare_of (sym_setting at) s f.place (widths_of r.lets)) (λ m l. fares_in_order (map (fare_of (sym_setting at)) rest) m l) f.then_place f.after f.keeps in
    record { place = f.place; then_place = k.0; after = k.1; keeps = k.2 }

all_counts : (x : Stmt) (xs : List Stmt) → all_of (map stmt_tally (x ∷ xs)) ≡ both (stmt_tally x) (all_of (map stmt_tally xs))
unfolding all_of
all_counts x xs = refl

-- what is left to be made counts one statement less
left_counts : (left : List Stmt) (s : Stmt) (rest : List Stmt) → left ≡ s ∷ rest → all_of (map stmt_tally left) ≡ both (stmt_tally s) (all_of (map stmt_tally rest))
left_counts left s rest e = ap (λ ss. all_of (map stmt_tally ss)) e ∙ all_counts s rest

way_writes : (at : SymEntry) (ss left : List Stmt) (s : Stmt) (rest : List Stmt) (n0 n m : List Node) (t0 t v : View) (r0 r q : Run) → left ≡ s ∷ rest → PartlyMade at ss left n0 t0 r0 n t r → IsDone (stmt_made s at (run_as n t r)) t m v q →
    length v.writes + (all_of (map stmt_tally rest)).accesses ≤ length t0.writes + (all_of (map stmt_tally ss)).accesses
unfolding both
way_writes at ss left s rest n0 n m t0 t v r0 r q e h done =
    omega (arith, ap (λ (k : Tally). k.accesses) (left_counts left s rest e), h.writes, stmt_done_writes s at n m t v r q done)

-- the nodes after one statement more, whether or not memory ran out in it
pub way_few : (at : SymEntry) (ss left : List Stmt) (s : Stmt) (rest : List Stmt) (n0 n m : List Node) (t0 t : View) (r0 r : Run) → left ≡ s ∷ rest → PartlyMade at ss left n0 t0 r0 n t r →
    AddsFew t.writes (stmt_tally s).accesses n m (stmts_cost (stmt_tally s)) → length t0.writes + (all_of (map stmt_tally ss)).accesses ≤ 72 →
    length m + stmts_cost (all_of (map stmt_tally rest)) ≤ length n0 + stmts_cost (all_of (map stmt_tally ss))
unfolding both
way_few at ss left s rest n0 n m t0 t r0 r e h few w =
    let a = ap (λ (k : Tally). k.accesses) (left_counts left s rest e) in
    let x = ap (λ (k : Tally). k.expressions) (left_counts left s rest e) in
    let y = ap (λ (k : Tally). k.statements) (left_counts left s rest e) in
    let j = h.writes in
    let f = h.few w in
    let g = few.few (omega (arith, a)) in
    omega (arith, x, y)

pub way_stops : (at : SymEntry) (ss left : List Stmt) (s : Stmt) (rest : List Stmt) (n0 n m : List Node) (t0 t : View) (r0 r : Run) → left ≡ s ∷ rest → PartlyMade at ss left n0 t0 r0 n t r →
    AddsFew t.writes (stmt_tally s).accesses n m (stmts_cost (stmt_tally s)) → AddsFew t0.writes (all_of (map stmt_tally ss)).accesses n0 m (stmts_cost (all_of (map stmt_tally ss)))
way_stops at ss left s rest n0 n m t0 t r0 r e h few = record { few = λ w. omega (arith, way_few at ss left s rest n0 n m t0 t r0 r e h few w) }

pub way_all : (at : SymEntry) (ss left : List Stmt) (n0 n : List Node) (t0 t : View) (r0 r : Run) → PartlyMade at ss left n0 t0 r0 n t r → AddsFew t0.writes (all_of (map stmt_tally ss)).accesses n0 n (stmts_cost (all_of (map stmt_tally ss)))
way_all at ss left n0 n t0 t r0 r h = record { few = λ w. omega (arith, h.few w) }

pub way_next : (at : SymEntry) (ss left : List Stmt) (s : Stmt) (rest : List Stmt) (n0 n m : List Node) (t0 t v : View) (r0 r q : Run) → left ≡ s ∷ rest → PartlyMade at ss left n0 t0 r0 n t r → IsDone (stmt_made s at (run_as n t r)) t m v q → GrowsTo n m →
    AddsFew t.writes (stmt_tally s).accesses n m (stmts_cost (stmt_tally s)) → PartlyMade at ss rest n0 t0 r0 m v q
unfolding fares_in_order in_order_made
way_next at ss left s rest n0 n m t0 t v r0 r q e h done g few =
    let f = subst (λ zs. Fares (fares_in_order (map (fare_of (sym_setting at)) zs)) r) e h.typed in
    let k = then_fares_keeps (fare_of (sym_setting at) s f.place (widths_of r.lets)) (λ a l. fares_in_order (map (fare_of (sym_setting at)) rest) a l) f.then_place f.after f.keeps in
    let d = stmt_right s at (run_as n t r) f.place (widths_of r.lets) k.0 k.1 h.ready.entry h.ready.run k.2 in
    let is : Does at (run_as n t r) (run_as m v q) k.1 (λ values x. deed_of s (entry_value values at) x) = subst (λ (z : SymRun). Does at (run_as n t r) z k.1 (λ values x. deed_of s (entry_value values at) x)) (sym done.made) d in
    record {
      ready = under_way at n m t v r q (stmt_made s at (run_as n t r)) k.1 (λ values x. deed_of s (entry_value values at) x) h.ready d done;
      typed = record {
        place = k.0;
        then_place = f.then_place;
        after = f.after;
        keeps = subst (λ (ws : LetWidths). fares_in_order (map (fare_of (sym_setting at)) rest) k.0 ws ≡ Keeps f.then_place f.after) (lets_widths (length m) q.lets k.1 is.run.lets) k.3;
      };
      made = ap (λ (z : SymRun). in_order_made (map stmt_made rest) at z) done.made ∙ ap (λ zs. in_order_made (map stmt_made zs) at (run_as n t r)) (sym e) ∙ h.made;
      view = done.view ∙ ap (λ (z : View). record z { cells = v.cells; writes = v.writes }) h.view;
      front = front_then n0 n m h.front g;
      writes = way_writes at ss left s rest n0 n m t0 t v r0 r q e h done;
      few = way_few at ss left s rest n0 n m t0 t r0 r e h few;
    }

pub way_ends : (at : SymEntry) (ss left : List Stmt) (n0 n : List Node) (t0 t : View) (r0 r : Run) → left ≡ [] → PartlyMade at ss left n0 t0 r0 n t r → IsDone (in_order_made (map stmt_made ss) at (run_as n0 t0 r0)) t0 n t r
unfolding in_order_made
way_ends at ss left n0 n t0 t r0 r e h = record { made = ap (λ zs. in_order_made (map stmt_made zs) at (run_as n t r)) (sym e) ∙ h.made; view = h.view }

-- a block, from what was made of its statements
pub block_done : (at : SymEntry) (ss : List Stmt) (n0 n : List Node) (t0 t : View) (r0 r : Run) (lets : SymLets) → lets ≡ r0.lets → IsDone (in_order_made (map stmt_made ss) at (run_as n0 t0 r0)) t0 n t r →
    IsDone (block_made (map stmt_made ss) at (run_as n0 t0 r0)) t0 n t (record r { lets = lets })
block_done at ss n0 n t0 t r0 r lets e done = record {
  made = ap (λ (l : SymLets). run_as n t (record r { lets = l })) e ∙ ap (with_lets_of (run_as n0 t0 r0)) done.made;
  view = done.view;
}

-- ---- an if

if_steps : (held other : SymDeed) (at : SymEntry) (test first second live : Gate) (n1 n2 n5 : List Node) (r s u : SymRun) → (first, n1) ≡ and_made r.flow.nodes r.flow.live test → (second, n2) ≡ and_made n1 r.flow.live (not_gate test) →
    s ≡ held at (with_live first n2 r) → u ≡ other at (with_live second s.flow.nodes s) → (live, n5) ≡ or_made u.flow.nodes s.flow.live u.flow.live → with_live live n5 u ≡ if_made held other at test r
unfolding if_made joined_made
if_steps held other at test first second live n1 n2 n5 r s u e f b o j =
    ap (λ (m : Gate × List Node). with_live m.0 m.1 u) j
    ∙ ap (λ (k : SymRun). joined_made s.flow.live k) o
    ∙ ap (λ (k : SymRun). other_made other at second k) b
    ∙ ap (λ (m : Gate × List Node). other_made other at m.0 (held at (with_live first m.1 r))) f
    ∙ ap (λ (m : Gate × List Node). (let next : Gate → List Node → SymRun = λ x k. other_made other at x (held at (with_live m.0 k r)) in next (and_made m.1 r.flow.live (not_gate test)).0 (and_made m.1 r.flow.live (not_gate test)).1)) e

pub if_done : (held other : SymDeed) (at : SymEntry) (test first second live not_test : Gate) (n0 n1 n2 n3 n4 n5 : List Node) (t0 t3 t4 : View) (r s u : Run) → (first, n1) ≡ and_made n0 r.guards.live test → not_test ≡ not_gate test →
    (second, n2) ≡ and_made n1 r.guards.live not_test → IsDone (held at (run_as n2 t0 (record r { guards = record r.guards { live = first } }))) t0 n3 t3 s → IsDone (other at (run_as n3 t3 (record s { guards = record s.guards { live = second } }))) t3 n4 t4 u →
    (live, n5) ≡ or_made n4 s.guards.live u.guards.live → IsDone (if_made held other at test (run_as n0 t0 r)) t0 n5 t4 (record u { guards = record u.guards { live = live } })
if_done held other at test first second live not_test n0 n1 n2 n3 n4 n5 t0 t3 t4 r s u e x f b o j = record {
  made = if_steps held other at test first second live n1 n2 n5 (run_as n0 t0 r) (run_as n3 t3 s) (run_as n4 t4 u) e (f ∙ ap (λ z. and_made n1 r.guards.live z) x) b.made o.made j;
  view = o.view ∙ ap (λ (v : View). record v { cells = t4.cells; writes = t4.writes }) b.view;
}

-- ---- measures

pub if_count : (s : Stmt) (c : Expr) (held slice : List Stmt) (other : Option (List Stmt)) → s ≡ If c held other → slice ≡ held →
    (all_of (map stmt_tally slice)).statements + (if_any (option_map (map stmt_tally) other)).statements < (stmt_tally s).statements
unfolding both
if_count s c held slice other e h =
    let p : (stmt_tally s).statements ≡ (stmt_tally (If c held other)).statements = ap (λ z. (stmt_tally z).statements) e in
    let q = ap (λ (t : Tally). t.statements) (stmt_tally-if c held other) in
    let o : (all_of (map stmt_tally slice)).statements ≡ (all_of (map stmt_tally held)).statements = ap (λ zs. (all_of (map stmt_tally zs)).statements) h in
    omega (arith, p, q, o)

pub item_counts : (ss : List Stmt) (i : ℕ) (s d : Stmt) → i < length ss → s ≡ get_or ss i d → (stmt_tally s).statements ≤ (all_of (map stmt_tally ss)).statements
unfolding both
item_counts [] i s d h e = absurd (omega arith)
item_counts (x ∷ xs) zero s d h e = omega (arith, ap (λ y. (stmt_tally y).statements) e, ap (λ t. t.statements) (all_counts x xs))
item_counts (x ∷ xs) (suc i) s d h e = omega (arith, item_counts xs i s d (omega arith) e, ap (λ t. t.statements) (all_counts x xs))
