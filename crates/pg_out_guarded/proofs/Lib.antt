pub mod GuardLemmas
pub mod BrokenLemmas
pub mod AskingLemmas
pub mod PlaceLemmas
pub mod PuttingLemmas
pub mod ReadLemmas
