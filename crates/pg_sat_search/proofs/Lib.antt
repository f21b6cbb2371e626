pub mod LogLemmas
pub mod HeldLemmas
pub mod ForgettingLemmas
pub mod TurnLemmas
