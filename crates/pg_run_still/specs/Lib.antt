pub mod Rounds
pub mod Resting
pub mod Views
pub mod Running
pub mod Rested
pub mod Bare
