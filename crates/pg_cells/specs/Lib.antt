pub mod Storage
pub mod Cells
pub mod View
pub mod Over
pub mod Made
pub mod Means
pub mod Rows
