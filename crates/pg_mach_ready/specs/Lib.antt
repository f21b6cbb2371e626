pub mod Skips
pub mod Telling
