pub mod AskedLemmas
pub mod OnlyOne
pub mod OneState
