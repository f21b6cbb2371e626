pub mod Covers
pub mod Running
pub mod Storing
