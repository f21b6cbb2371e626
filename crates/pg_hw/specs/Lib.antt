pub mod Tallies
pub mod Machinery
pub mod Bursts
pub mod Running
pub mod Serving
pub mod Idling
pub mod Stillness
