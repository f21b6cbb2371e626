pub mod LeavingLemmas
pub mod UserLemmas
pub mod SteppedLemmas
pub mod TurnedLemmas
pub mod PlanLemmas
pub mod TurnRows
