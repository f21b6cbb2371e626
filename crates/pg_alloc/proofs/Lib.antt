pub mod FitLemmas
pub mod GrantLemmas
pub mod GapLemmas
