pub mod CircuitLemmas
pub mod EqLemmas
pub mod MadeLemmas
pub mod NodeLemmas
pub mod ValueLemmas
