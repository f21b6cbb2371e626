pub mod RowLemmas
mod PushedRows
pub mod RowsBack
pub mod DrawnLines
