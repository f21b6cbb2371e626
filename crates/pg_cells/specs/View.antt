-- What contracts see of touched cells.
use Rattle.std.specs.Prelude.{ℕ, List}
use Rattle.pg_cells.specs.declared.cell.Cell.{Cell}
use Rattle.pg_cells.specs.declared.cell.Write.{Write}

-- the width of words and of addresses, the cells in the order in which they were first touched, and the writes that stand
pub record View : Type 0 where
  pub w : ℕ
  pub a : ℕ
  pub cells : List Cell
  pub writes : List Write
