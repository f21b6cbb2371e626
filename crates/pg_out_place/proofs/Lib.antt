pub mod Feeds
pub mod CharSteps
