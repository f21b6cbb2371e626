-- What gates mean that are made of an expression.
use Rattle.std.specs.Prelude.{◌≡◌, ℕ, Bool, false, ◌||◌, List, length, take, Option, None, Some}
use Rattle.pg_circuit.specs.declared.node.Gate.{Gate}
use Rattle.pg_circuit.specs.Grown.{GrowsTo}
use Rattle.pg_circuit.specs.Values.{gate_value}
use Rattle.pg_vec.specs.There.{AreValues}
use Rattle.pg_cells.specs.declared.cell.Cell.{Cell}
use Rattle.pg_cells.specs.declared.cell.Write.{Write}
use Rattle.pg_cells.specs.Storage.{IsStorage, Agrees}
use Rattle.pg_cells.specs.Cells.{known_cells}
use Rattle.pg_ast.specs.declared.tree.Expr.{Expr}
use Rattle.pg_lang_meaning.specs.Values.{Bits, Meaning, value}
use Rattle.pg_lang_valid.specs.Widths.{LetWidths, width_of}
use Rattle.pg_symex.specs.Flow.{SymEntry, SymLets, Flow}
use Rattle.pg_symex.specs.Numbers.{value_of, entry_value, lets_value, window_value}
use Rattle.pg_symex.specs.There.{AreBits, IsSymEntry, sym_setting, LetsAre, IsFlow}
use Rattle.pg_symex.specs.Exprs.{expr_made}

-- What became of an expression that was reached where `live` is true, a memory trap having ended the body before where
-- `mem_trap` is: where it memory traps, this place is reached no more, and a body that had reached it has memory trapped;
-- else both are as they were, and the bits are the value.
abbrev pub Follows : Bool → Bool → Bool → Bool → Bits → Option Bits → Type 0
Follows live mem_trap then_live then_trap x None = (then_live ≡ false) × (then_trap ≡ (mem_trap || live))
Follows live mem_trap then_live then_trap x (Some y) = (then_live ≡ live) × (then_trap ≡ mem_trap) × (x ≡ y)

-- the cells that there were are the first of those that there are then; so a storage that agrees with all of them agrees with
-- those that there were
pub record CellsStay (old new : List Cell) : Type 0 where
  pub front : take (length old) new ≡ old
  pub agrees : (values : List Bool) (storage : List ℕ) → Agrees storage (known_cells values new) → Agrees storage (known_cells values old)

-- Bits of a width were made from what was kept before; the circuit has grown, and in every circuit that begins with its nodes,
-- whatever the inputs are, and for every storage that agrees with the cells, they follow what is meant.
pub record Makes (at : SymEntry) (lets : SymLets) (writes : List Write) (f : Flow) (width : ℕ) (made : List Gate × Flow) (meant : Meaning) : Type 0 where
  pub flow : IsFlow at writes made.1
  pub front : GrowsTo f.nodes made.1.nodes
  pub cells : CellsStay f.cells made.1.cells
  pub bits : AreBits (length made.1.nodes) width made.0
  pub worth : (inputs values : List Bool) (storage : List ℕ) → AreValues inputs made.1.nodes values → IsStorage at.w at.a storage → Agrees storage (known_cells values made.1.cells) →
      Follows (gate_value values f.live) (gate_value values f.mem_trap) (gate_value values made.1.live) (gate_value values made.1.mem_trap) (value_of values made.0)
      (meant (entry_value values at) (lets_value values lets) (window_value values storage at writes))

-- an expression that keeps to the table of widths is made right
abbrev pub IsRight : Expr → Type 0
IsRight e = (at : SymEntry) (lets : SymLets) (ws : LetWidths) (writes : List Write) (f : Flow) (n : ℕ) →
    IsSymEntry (length f.nodes) at → LetsAre (length f.nodes) lets ws → IsFlow at writes f → width_of (sym_setting at) e ws ≡ Some n →
    Makes at lets writes f n (expr_made e at lets writes f) (value e)
