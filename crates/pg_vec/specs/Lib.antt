pub mod Number
pub mod There
pub mod AddsNodes
pub mod Gates
pub mod Strings
pub mod Makes
pub mod Pairing
pub mod Direction
