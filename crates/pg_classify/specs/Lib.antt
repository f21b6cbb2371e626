pub mod Classified
pub mod Lowering
pub mod Changes
pub mod Trying
