pub mod Presenting
pub mod Levels
pub mod Bursting
