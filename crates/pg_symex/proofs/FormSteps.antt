-- Single forms in code, from what their steps made.
use Rattle.std.proofs.Common.{◌≡◌, ℕ, List, ◌∷◌, map, Option, Result, Ok, Err, refl, sym, ap, ◌∙◌}
use Rattle.std.specs.Prelude.{OnOk}
use Rattle.std.specs.Option.{option_map}
use Rattle.pg_circuit.specs.declared.node.Gate.{Gate}
use Rattle.pg_circuit.specs.declared.node.Node.{Node}
use Rattle.pg_cells.specs.View.{View}
use Rattle.pg_ast.specs.declared.tree.Expr.{Expr}
use Rattle.pg_ast.specs.declared.tree.Stmt.{Stmt}
use Rattle.pg_ast.specs.declared.tree.Stmt.TheVariants.{Store, Trap, If}
use Rattle.pg_symex.specs.declared.run.Run.{Run}
use Rattle.pg_symex.specs.Flow.{SymEntry, SymLets}
use Rattle.pg_symex.specs.Exprs.{bit_0}
use Rattle.pg_symex.specs.Stmts.{with_expr, let_made, store_made, trap_made, if_made, block_made, else_made, stmt_made}
use Rattle.pg_symex.specs.RunView.{run_as, IsDone, IsTaken}
use Rattle.pg_symex.proofs.StmtEquations as mades
use Rattle.pg_symex.proofs.StmtSteps.{taken}

pub let_step : {E : Type 0} (n : List Node) (t : View) (r : Run) (name bytes : List ℕ) (bits : List Gate) (new : SymLets) (res : Result (Unit {0}) E) → name ≡ bytes → OnOk res (new ≡ (name, bits) ∷ r.lets) →
    OnOk res (run_as n t (record r { lets = new }) ≡ let_made bytes bits (run_as n t r))
let_step n t r name bytes bits new (Err x) e h = tt
let_step n t r name bytes bits new (Ok u) e h =
    ap (λ (l : SymLets). run_as n t (record r { lets = l })) (h ∙ ap (λ (b : List ℕ). (b, bits) ∷ r.lets) e)

pub trap_done : {E : Type 0} (at : SymEntry) (s : Stmt) (n0 n : List Node) (t : View) (r0 r : Run) (res : Result (Unit {0}) E) → s ≡ Trap → OnOk res ((v : View) → run_as n v r ≡ trap_made (run_as n0 v r0)) →
    OnOk res (IsDone (stmt_made s at (run_as n0 t r0)) t n t r)
trap_done at s n0 n t r0 r (Err x) e h = tt
trap_done at s n0 n t r0 r (Ok u) e h = record { made = h t ∙ sym (mades.made-trap at (run_as n0 t r0)) ∙ ap (λ z. stmt_made z at (run_as n0 t r0)) (sym e); view = refl }

pub store_done : {E : Type 0} (at : SymEntry) (s : Stmt) (a e : Expr) (n0 n1 n2 n3 : List Node) (t0 t1 t2 t3 : View) (r0 r1 r2 r3 : Run) (address value : List Gate) (res : Result (Unit {0}) E) → s ≡ Store a e →
    IsTaken at a n0 t0 r0 address n1 t1 r1 → IsTaken at e n1 t1 r1 value n2 t2 r2 → OnOk res (run_as n3 t3 r3 ≡ store_made at address value (run_as n2 t2 r2)) → OnOk res (t3 ≡ record t2 { writes = t3.writes }) →
    OnOk res (IsDone (stmt_made s at (run_as n0 t0 r0)) t0 n3 t3 r3)
store_done at s a e n0 n1 n2 n3 t0 t1 t2 t3 r0 r1 r2 r3 address value (Err x) is h k m v = tt
store_done at s a e n0 n1 n2 n3 t0 t1 t2 t3 r0 r1 r2 r3 address value (Ok u) is h k m v =
    let cells = ap (λ (z : View). z.cells) v in
    record {
      made =
          m ∙ taken at e n1 n2 t1 t2 r1 r2 value (λ y q. store_made at address y q) k
          ∙ taken at a n0 n1 t0 t1 r0 r1 address (λ x q. with_expr e at q (λ y p. store_made at x y p)) h
          ∙ sym (mades.made-store a e at (run_as n0 t0 r0))
          ∙ ap (λ z. stmt_made z at (run_as n0 t0 r0)) (sym is);
      view =
          v ∙ ap (λ (z : View). record z { writes = t3.writes }) (k.made.view ∙ ap (λ (z : View). record z { cells = t2.cells }) h.made.view)
          ∙ ap (λ c. let z : View = record t0 { cells = c; writes = t3.writes } in z) (sym cells);
    }

pub if_form : {E : Type 0} (at : SymEntry) (s : Stmt) (c : Expr) (held slice : List Stmt) (other : Option (List Stmt)) (n0 n1 n2 : List Node) (t0 t1 t2 : View) (r0 r1 r2 : Run) (bits : List Gate) (test : Gate) (res : Result (Unit {0}) E) → s ≡ If c held other → slice ≡ held → test ≡ bit_0 bits →
    IsTaken at c n0 t0 r0 bits n1 t1 r1 → OnOk res (IsDone (if_made (block_made (map stmt_made slice)) (else_made (option_map (map stmt_made) other)) at test (run_as n1 t1 r1)) t1 n2 t2 r2) →
    OnOk res (IsDone (stmt_made s at (run_as n0 t0 r0)) t0 n2 t2 r2)
if_form at s c held slice other n0 n1 n2 t0 t1 t2 r0 r1 r2 bits test (Err x) is e b h d = tt
if_form at s c held slice other n0 n1 n2 t0 t1 t2 r0 r1 r2 bits test (Ok u) is e b h d = record {
  made =
      d.made
      ∙ ap (λ (z : List Stmt). if_made (block_made (map stmt_made z)) (else_made (option_map (map stmt_made) other)) at test (run_as n1 t1 r1)) e
      ∙ ap (λ (z : Gate). if_made (block_made (map stmt_made held)) (else_made (option_map (map stmt_made) other)) at z (run_as n1 t1 r1)) b
      ∙ taken at c n0 n1 t0 t1 r0 r1 bits (λ x q. if_made (block_made (map stmt_made held)) (else_made (option_map (map stmt_made) other)) at (bit_0 x) q) h
      ∙ sym (mades.made-if c held other at (run_as n0 t0 r0))
      ∙ ap (λ z. stmt_made z at (run_as n0 t0 r0)) (sym is);
  view = d.view ∙ ap (λ (z : View). record z { cells = t2.cells; writes = t2.writes }) h.made.view;
}
