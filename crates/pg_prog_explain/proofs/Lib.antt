pub mod MendedLemmas
pub mod ExplainLemmas
