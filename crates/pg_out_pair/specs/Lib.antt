pub mod Telling
pub mod Views
pub mod Explaining
pub mod Readable
