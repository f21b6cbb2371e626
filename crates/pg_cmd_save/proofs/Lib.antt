mod GuestLemmas
mod RunLemmas
mod EndsLemmas
pub mod OneSaved
