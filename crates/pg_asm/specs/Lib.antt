pub mod Words
pub mod Said
pub mod Lines
pub mod Sources
pub mod Passes
pub mod Placed
pub mod Texts
