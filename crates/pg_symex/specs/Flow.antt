-- What a body reads and keeps on its way through gates.
use Rattle.std.specs.Prelude.{ℕ, List}
use Rattle.pg_circuit.specs.declared.node.Gate.{Gate}
use Rattle.pg_circuit.specs.declared.node.Node.{Node}
use Rattle.pg_cells.specs.declared.cell.Cell.{Cell}
use Rattle.pg_cells.specs.declared.cell.Write.{Write}
use Rattle.pg_cells.specs.View.{View}
use Rattle.pg_symex.specs.declared.regs.Regs.{Regs}
use Rattle.pg_symex.specs.declared.regs.Next.{Next}

-- what a body reads: the widths of words and addresses, the registers at entry, the pattern, and the word that was fetched
pub record SymEntry : Type 0 where
  pub w : ℕ
  pub a : ℕ
  pub regs : Regs
  pub pattern : List ℕ
  pub word : List Gate

-- the lets that are visible, the newest first
abbrev pub SymLets : Type 0
SymLets = List (List ℕ × List Gate)

-- what expressions change: the nodes, the cells that are touched, whether this place is reached, and whether a memory trap
-- ended the body before
pub record Flow : Type 0 where
  pub nodes : List Node
  pub cells : List Cell
  pub live : Gate
  pub mem_trap : Gate

-- a body under way: what expressions change, the writes so far, whether `trap` ended the body before, the registers that it
-- will leave, and the lets that are visible
pub record SymRun : Type 0 where
  pub flow : Flow
  pub writes : List Write
  pub trap : Gate
  pub next : Next
  pub lets : SymLets

-- the touched cells of a body under way
abbrev pub view_of : SymEntry → List Write → List Cell → View
view_of at writes cells = record { w = at.w; a = at.a; cells = cells; writes = writes }

-- the same with other nodes
abbrev pub with_nodes : Flow → List Node → Flow
with_nodes f nodes = record f { nodes = nodes }
