-- What the calls for runs leave.
use Rattle.std.specs.Prelude.{◌≡◌, ℕ, ℤ, List}
use Rattle.pg_circuit.specs.declared.node.Gate.{Gate}
use Rattle.pg_circuit.specs.declared.node.Node.{Node}
use Rattle.pg_cells.specs.declared.cell.Cell.{Cell}
use Rattle.pg_cnf.specs.Encoded.{clauses_of}
use Rattle.pg_type.specs.declared.kind.Kind.{Kind}
use Rattle.pg_ask.specs.declared.unknowns.Unknowns.{Unknowns}
use Rattle.pg_ask.specs.declared.ends.End.{End}
use Rattle.pg_ask.specs.declared.ends.BothEnds.{BothEnds}
use Rattle.pg_ask.specs.There.{AreEnd}
use Rattle.pg_ask.specs.Ends.{Ended, Both}
use Rattle.pg_ask.specs.Question.{root_made}

-- an end that is what is due, over the nodes and cells that there are then
pub record IsEnded (due : Ended) (e : End) (nodes : List Node) (cells : List Cell) : Type 0 where
  pub end_is : e ≡ due.end
  pub nodes_are : nodes ≡ due.nodes
  pub cells_are : cells ≡ due.cells

pub record AreBoth (due : Both) (e : BothEnds) (nodes : List Node) (cells : List Cell) : Type 0 where
  pub first_is : e.first ≡ due.first
  pub second_is : e.second ≡ due.second
  pub nodes_are : nodes ≡ due.nodes
  pub cells_are : cells ≡ due.cells

pub record AreEnds (places w a : ℕ) (e : BothEnds) : Type 0 where
  pub first : AreEnd places w a e.first
  pub second : AreEnd places w a e.second

-- the root of a question whose runs are what is due, over the nodes and cells that there are then
pub record IsRoot (kind : Kind) (u : Unknowns) (v : List Gate) (fits : Gate) (due : Both) (root : Gate) (nodes : List Node) (cells : List Cell) : Type 0 where
  pub root_is : (root, nodes) ≡ root_made kind u v fits due.nodes due.cells due.first due.second
  pub cells_are : cells ≡ due.cells

-- the clauses of that root, over the cells that there are then
pub record AreWritten (kind : Kind) (u : Unknowns) (v : List Gate) (fits : Gate) (due : Both) (clauses : List (List ℤ)) (cells : List Cell) : Type 0 where
  pub clauses_are : clauses ≡ (let root = root_made kind u v fits due.nodes due.cells due.first due.second in
      clauses_of root.1 root.0)
  pub cells_are : cells ≡ due.cells
