mod PlanLemmas
mod GoingLemmas
mod ViewLemmas
mod TellLemmas
mod RanLemmas
pub mod StandLemmas
