-- A body under way of the code as the definitions have it, and what its calls ask and leave.
use Rattle.std.specs.Prelude.{◌≡◌, ℕ, List, length}
use Rattle.pg_circuit.specs.declared.node.Gate.{Gate}
use Rattle.pg_circuit.specs.declared.node.Node.{Node}
use Rattle.pg_cells.specs.View.{View}
use Rattle.pg_ast.specs.declared.tree.Expr.{Expr}
use Rattle.pg_lang_valid.specs.Widths.{LetWidths, Keeps, Faring, after_block}
use Rattle.pg_symex.specs.declared.run.Run.{Run}
use Rattle.pg_symex.specs.Flow.{SymEntry, SymRun, view_of}
use Rattle.pg_symex.specs.FlowView.{flow_as}
use Rattle.pg_symex.specs.There.{IsSymEntry}
use Rattle.pg_symex.specs.Ends.{IsSymRun}
use Rattle.pg_symex.specs.Calls.{widths_of, IsMade, IsValue}
use Rattle.pg_symex.specs.Exprs.{expr_made}

abbrev pub run_as : List Node → View → Run → SymRun
run_as nodes t r = record { flow = flow_as nodes t.cells r.guards; writes = t.writes; trap = r.trap; next = r.next; lets = r.lets }

-- all that a statement reads is there, and the cells are those of the entry's machine, over the circuit
pub record IsUnderWay (at : SymEntry) (nodes : List Node) (t : View) (r : Run) : Type 0 where
  pub entry : IsSymEntry (length nodes) at
  pub view : t ≡ view_of at t.writes t.cells
  pub run : IsSymRun at (run_as nodes t r) (widths_of r.lets)

-- statements that keep to the table of widths
pub record Fares (f : Faring) (r : Run) : Type 0 where
  pub place : ℕ
  pub then_place : ℕ
  pub after : LetWidths
  pub keeps : f place (widths_of r.lets) ≡ Keeps then_place after

-- the same inside a block, whose lets end with it
pub record FaresInBlock (f : Faring) (r : Run) : Type 0 where
  pub place : ℕ
  pub then_place : ℕ
  pub after : LetWidths
  pub keeps : after_block (widths_of r.lets) (f place (widths_of r.lets)) ≡ Keeps then_place after

-- a body under way that is what is due; of the touched cells the cells and the writes alone may have changed
pub record IsDone (due : SymRun) (old : View) (nodes : List Node) (t : View) (r : Run) : Type 0 where
  pub made : run_as nodes t r ≡ due
  pub view : t ≡ record old { cells = t.cells; writes = t.writes }

-- bits of an expression of a body under way, of which the guards alone may have changed
pub record IsTaken (at : SymEntry) (e : Expr) (old : List Node) (t0 : View) (r0 : Run) (bits : List Gate) (nodes : List Node) (t : View) (r : Run) : Type 0 where
  pub made : IsMade (expr_made e at r0.lets t0.writes (flow_as old t0.cells r0.guards)) bits t0 nodes t r.guards
  pub value : IsValue at r0.lets e old bits nodes t r.guards
  pub same : r ≡ record r0 { guards = r.guards }
