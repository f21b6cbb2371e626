pub mod Literals
pub mod Truth
pub mod Encoded
pub mod Rows
