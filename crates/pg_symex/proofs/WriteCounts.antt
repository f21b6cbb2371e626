-- How many writes come with statements: at most as many as they have accesses.
use Rattle.std.proofs.Common.{◌≡◌, ℕ, ◌+◌, ◌≤◌, List, [], ◌∷◌, ◌++◌, length, map, None, Some, refl, sym, ap, subst, arith}
use Rattle.std.proofs.lemmas.List.{length_push}
use Rattle.pg_circuit.specs.declared.node.Gate.{Gate}
use Rattle.pg_circuit.specs.declared.node.Node.{Node}
use Rattle.pg_circuit.specs.Made.{not_gate, and_made}
use Rattle.pg_cells.specs.declared.cell.Write.{Write}
use Rattle.pg_cells.specs.View.{View}
use Rattle.pg_ast.specs.declared.tree.Stmt.{Stmt}
use Rattle.pg_ast.specs.declared.tree.Stmt.TheVariants.{Let, Store, Pc, Mode, Rel, Bound, Trap, If, rolls-Let, rolls-Store, rolls-Pc, rolls-Mode, rolls-Rel, rolls-Bound, rolls-Trap, rolls-If}
use Rattle.pg_ast.specs.declared.tree.Stmt.TheOpen as Open
use Rattle.pg_ast.specs.declared.tree.Stmt.TheFolds.{ind-Stmt, map-Stmt}
use Rattle.pg_ast.specs.declared.tree.Stmt.TheViews.{roll-Stmt}
use Rattle.pg_lang_valid.specs.Limits.{Tally, both, all_of, stmt_tally}
use Rattle.pg_lang_valid.proofs.CheckStmtEquations.{stmt_tally-store, stmt_tally-if}
use Rattle.pg_symex.specs.declared.run.Run.{Run}
use Rattle.pg_symex.specs.Flow.{SymEntry, SymRun}
use Rattle.pg_symex.specs.Stmts.{SymDeed, assigned, trap_made, with_live, joined_made, if_made, in_order_made, block_made, else_made, stmt_made}
use Rattle.pg_symex.specs.RunView.{run_as, IsDone}
use Rattle.pg_symex.proofs.StmtEquations as mades

-- at most so many writes come
abbrev pub Writes : SymDeed → ℕ → Type 0
Writes deed most = (at : SymEntry) (r : SymRun) → length ((deed at r).writes) ≤ length r.writes + most

abbrev pub FewWrites : Stmt → Type 0
FewWrites s = Writes (stmt_made s) (stmt_tally s).accesses

no_write : (s : Stmt) (at : SymEntry) (r due : SymRun) → stmt_made s at r ≡ due → due.writes ≡ r.writes → length ((stmt_made s at r).writes) ≤ length r.writes + (stmt_tally s).accesses
no_write s at r due e h =
    let p : length ((stmt_made s at r).writes) ≡ length due.writes = ap (λ (q : SymRun). length q.writes) e in
    let q : length due.writes ≡ length r.writes = ap length h in
    omega arith

one_write : (s : Stmt) (at : SymEntry) (r due : SymRun) (w : Write) → stmt_made s at r ≡ due → due.writes ≡ r.writes ++ w ∷ [] → 1 ≤ (stmt_tally s).accesses → length ((stmt_made s at r).writes) ≤ length r.writes + (stmt_tally s).accesses
one_write s at r due w e h l =
    let p : length ((stmt_made s at r).writes) ≡ length due.writes = ap (λ (q : SymRun). length q.writes) e in
    let q : length due.writes ≡ length (r.writes ++ w ∷ []) = ap length h in
    omega (arith, length_push r.writes w)

store_accesses : (s : Stmt) (t : Tally) → stmt_tally s ≡ t → 1 ≤ t.accesses → 1 ≤ (stmt_tally s).accesses
store_accesses s t e l = subst (λ (k : Tally). 1 ≤ k.accesses) (sym e) l

if_writes : (held other : SymDeed) (at : SymEntry) (test : Gate) (r : SymRun) (m n : ℕ) → Writes held m → Writes other n → length ((if_made held other at test r).writes) ≤ length r.writes + (m + n)
unfolding if_made joined_made
if_writes held other at test r m n h o =
    let first = and_made r.flow.nodes r.flow.live test in
    let second = and_made first.1 r.flow.live (not_gate test) in
    let s = held at (with_live first.0 second.1 r) in
    let p : length s.writes ≤ length r.writes + m = h at (with_live first.0 second.1 r) in
    let q : length ((other at (with_live second.0 s.flow.nodes s)).writes) ≤ length s.writes + n = o at (with_live second.0 s.flow.nodes s) in
    omega (arith, p, q)

list_writes : (ps : List ((s : Stmt) × FewWrites s)) → Writes (in_order_made (map stmt_made (map (λ p. p.0) ps))) (all_of (map stmt_tally (map (λ p. p.0) ps))).accesses
unfolding in_order_made all_of both
list_writes [] at r = omega arith
list_writes (p ∷ ps) at r = omega (arith, p.1 at r, list_writes ps at (stmt_made p.0 at r))

if_form_writes : (s : Stmt) (at : SymEntry) (r : SymRun) (held other : SymDeed) (test : Gate) (f : SymRun) (m n : ℕ) → f.writes ≡ r.writes → stmt_made s at r ≡ if_made held other at test f → Writes held m → Writes other n → m + n ≤ (stmt_tally s).accesses →
    length ((stmt_made s at r).writes) ≤ length r.writes + (stmt_tally s).accesses
if_form_writes s at r held other test f m n w e h o l =
    let p : length ((stmt_made s at r).writes) ≡ length ((if_made held other at test f).writes) = ap (λ (q : SymRun). length q.writes) e in
    let q : length f.writes ≡ length r.writes = ap length w in
    omega (arith, if_writes held other at test f m n h o)

no_other : Writes (else_made None) 0
no_other at r = omega arith

writes_layer : (y : Open.Stmt-F ((s : Stmt) × FewWrites s)) → FewWrites (roll-Stmt (map-Stmt ((s : Stmt) × FewWrites s) Stmt (λ p. p.0) y))
unfolding assigned trap_made both
writes_layer (Open.Let n e) = subst FewWrites (sym (rolls-Let n e)) (λ at r. no_write (Let n e) at r _ (mades.made-let n e at r) refl)
writes_layer (Open.Store a e) = subst FewWrites (sym (rolls-Store a e)) (λ at r. one_write (Store a e) at r _ _ (mades.made-store a e at r) refl (store_accesses (Store a e) _ (stmt_tally-store a e) (omega arith)))
writes_layer (Open.Pc e) = subst FewWrites (sym (rolls-Pc e)) (λ at r. no_write (Pc e) at r _ (mades.made-pc e at r) refl)
writes_layer (Open.Mode e) = subst FewWrites (sym (rolls-Mode e)) (λ at r. no_write (Mode e) at r _ (mades.made-mode e at r) refl)
writes_layer (Open.Rel e) = subst FewWrites (sym (rolls-Rel e)) (λ at r. no_write (Rel e) at r _ (mades.made-rel e at r) refl)
writes_layer (Open.Bound e) = subst FewWrites (sym (rolls-Bound e)) (λ at r. no_write (Bound e) at r _ (mades.made-bound e at r) refl)
writes_layer Open.Trap = subst FewWrites (sym rolls-Trap) (λ at r. no_write Trap at r _ (mades.made-trap at r) refl)
writes_layer (Open.If c held None) =
    let hs = map (λ p. p.0) held in
    let count = ap (λ (t : Tally). t.accesses) (stmt_tally-if c hs None) in
    subst FewWrites (sym (rolls-If c hs None)) (λ at r. if_form_writes (If c hs None) at r (block_made (map stmt_made hs)) (else_made None) _ _ (all_of (map stmt_tally hs)).accesses 0 refl (mades.made-if c hs None at r) (λ b q. list_writes held b q) no_other (omega (arith, count)))
writes_layer (Open.If c held (Some other)) =
    let hs = map (λ p. p.0) held in
    let os = map (λ p. p.0) other in
    let count = ap (λ (t : Tally). t.accesses) (stmt_tally-if c hs (Some os)) in
    subst FewWrites (sym (rolls-If c hs (Some os))) (λ at r. if_form_writes (If c hs (Some os)) at r (block_made (map stmt_made hs)) (block_made (map stmt_made os)) _ _ (all_of (map stmt_tally hs)).accesses (all_of (map stmt_tally os)).accesses refl (mades.made-if c hs (Some os) at r) (λ b q. list_writes held b q) (λ b q. list_writes other b q) (omega (arith, count)))

pub stmt_writes : (s : Stmt) → FewWrites s
stmt_writes = ind-Stmt FewWrites (λ x y is. subst (λ z. FewWrites (roll-Stmt z)) is (writes_layer y))

pub in_order_writes : (ss : List Stmt) → Writes (in_order_made (map stmt_made ss)) (all_of (map stmt_tally ss)).accesses
unfolding in_order_made all_of both
in_order_writes [] at r = omega arith
in_order_writes (s ∷ ss) at r = omega (arith, stmt_writes s at r, in_order_writes ss at (stmt_made s at r))

-- what code left that is due
done_writes : (deed : SymDeed) (most : ℕ) (at : SymEntry) (n0 n : List Node) (t0 t : View) (r0 r : Run) → Writes deed most → IsDone (deed at (run_as n0 t0 r0)) t0 n t r → length t.writes ≤ length t0.writes + most
done_writes deed most at n0 n t0 t r0 r h done =
    let e : length t.writes ≡ length ((deed at (run_as n0 t0 r0)).writes) = ap (λ (q : SymRun). length q.writes) done.made in
    omega (arith, h at (run_as n0 t0 r0))

pub stmt_done_writes : (s : Stmt) (at : SymEntry) (n0 n : List Node) (t0 t : View) (r0 r : Run) → IsDone (stmt_made s at (run_as n0 t0 r0)) t0 n t r → length t.writes ≤ length t0.writes + (stmt_tally s).accesses
stmt_done_writes s at n0 n t0 t r0 r done = done_writes (stmt_made s) _ at n0 n t0 t r0 r (stmt_writes s) done

pub block_done_writes : (ss : List Stmt) (at : SymEntry) (n0 n : List Node) (t0 t : View) (r0 r : Run) → IsDone (block_made (map stmt_made ss) at (run_as n0 t0 r0)) t0 n t r → length t.writes ≤ length t0.writes + (all_of (map stmt_tally ss)).accesses
block_done_writes ss at n0 n t0 t r0 r done = done_writes (block_made (map stmt_made ss)) _ at n0 n t0 t r0 r (λ b q. in_order_writes ss b q) done
