pub mod Either
pub mod Imported
pub mod Dimacs
pub mod Lrat
