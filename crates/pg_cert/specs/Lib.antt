pub mod Verdicts
pub mod Lines
pub mod Reading
pub mod Parsing
pub mod Texts
pub mod Validity
pub mod InRange
