pub mod Texts
pub mod Spans
pub mod Replays
pub mod Runs
pub mod Summaries
pub mod Verdicts
