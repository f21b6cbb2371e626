pub mod Held
pub mod Lesson
pub mod Findings
pub mod Turns
