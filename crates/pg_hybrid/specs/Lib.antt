pub mod UserTurns
pub mod Leaving
pub mod Turns
pub mod Plans
pub mod Current
pub mod Hybrids
pub mod WorkedTurns
