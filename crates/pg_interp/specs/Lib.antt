pub mod Writes
pub mod Frames
pub mod Courses
pub mod Outcomes
