pub mod Nodes
pub mod Values
pub mod Made
pub mod Grown
pub mod Rows
