pub mod WriteLemmas
pub mod CodeLemmas
pub mod FrameLemmas
pub mod WayLemmas
pub mod FetchLemmas
