pub mod Composing
pub mod Granting
