-- What the code's calls ask of what they are lent, and what they leave.
use Rattle.std.specs.Prelude.{◌≡◌, ℕ, ◌+◌, ◌*◌, ◌^◌, ◌≤◌, List, length, map, Some, IsSome}
use Rattle.pg_circuit.specs.declared.node.Gate.{Gate}
use Rattle.pg_circuit.specs.declared.node.Node.{Node}
use Rattle.pg_circuit.specs.Grown.{GrowsTo}
use Rattle.pg_cells.specs.declared.cell.Write.{Write}
use Rattle.pg_cells.specs.View.{View}
use Rattle.pg_ast.specs.declared.tree.Expr.{Expr}
use Rattle.pg_lang_valid.specs.Limits.{Tally, expr_tally}
use Rattle.pg_lang_valid.specs.Widths.{LetWidths, width_of}
use Rattle.pg_symex.specs.declared.guards.Guards.{Guards}
use Rattle.pg_symex.specs.Flow.{SymEntry, SymLets, Flow, view_of}
use Rattle.pg_symex.specs.FlowView.{flow_as}
use Rattle.pg_symex.specs.There.{AreBits, IsSymEntry, sym_setting, LetsAre, IsFlow}

-- the widths of lets
abbrev pub widths_of : SymLets → LetWidths
widths_of lets = map (λ l. (l.0, length l.1)) lets

-- all that an expression reads is there, and the cells are those of the entry's machine, over the circuit
pub record IsReady (at : SymEntry) (lets : SymLets) (nodes : List Node) (t : View) (g : Guards) : Type 0 where
  pub entry : IsSymEntry (length nodes) at
  pub lets_are : LetsAre (length nodes) lets (widths_of lets)
  pub view : t ≡ view_of at t.writes t.cells
  pub flow : IsFlow at t.writes (flow_as nodes t.cells g)

-- an expression that keeps to the table of widths
pub record IsTyped (at : SymEntry) (lets : SymLets) (e : Expr) : Type 0 where
  pub some : IsSome (width_of (sym_setting at) e (widths_of lets))

-- bits that are what is due, and so is what is kept after them; of the touched cells the cells alone may have changed
pub record IsMade (due : List Gate × Flow) (bits : List Gate) (old : View) (nodes : List Node) (t : View) (g : Guards) : Type 0 where
  pub made : (bits, flow_as nodes t.cells g) ≡ due
  pub view : t ≡ record old { cells = t.cells }

-- bits of the width of an expression, and all ready for what comes next
pub record IsValue (at : SymEntry) (lets : SymLets) (e : Expr) (old : List Node) (bits : List Gate) (nodes : List Node) (t : View) (g : Guards) : Type 0 where
  pub ready : IsReady at lets nodes t g
  pub front : GrowsTo old nodes
  pub are_bits : AreBits (length nodes) (length bits) bits
  pub width : width_of (sym_setting at) e (widths_of lets) ≡ Some (length bits)

-- what a call adds in any case, also where memory runs out: the nodes stay, and while at most 72 writes stand, as many as 64 and
-- those of an instruction, at most so many nodes are added
pub record Adds (writes : List Write) (old new : List Node) (most : ℕ) : Type 0 where
  pub front : GrowsTo old new
  pub few : length writes ≤ 72 → length new ≤ length old + most

-- how many nodes an expression costs at most
abbrev pub expr_cost : Expr → ℕ
expr_cost e = (expr_tally e).expressions * (3 * 2 ^ 15)

-- how many nodes statements cost at most: their expressions, and each of them
abbrev pub stmts_cost : Tally → ℕ
stmts_cost t = t.expressions * (3 * 2 ^ 15) + t.statements * 2 ^ 16

-- what statements add in any case, also where memory runs out: while the writes that stand and those that may come are at
-- most 72, at most so many nodes are added
pub record AddsFew (writes : List Write) (accesses : ℕ) (old new : List Node) (most : ℕ) : Type 0 where
  pub few : length writes + accesses ≤ 72 → length new ≤ length old + most
