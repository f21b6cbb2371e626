pub mod Cutting
pub mod Printing
pub mod Places
pub mod Formed
