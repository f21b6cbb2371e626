pub mod Names
pub mod Replays
pub mod Runs
pub mod Sums
pub mod Texts
pub mod Rows
pub mod Verdicts
pub mod KindAnswers
