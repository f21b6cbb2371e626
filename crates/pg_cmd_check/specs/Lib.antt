pub mod Verify
pub mod Replay
pub mod Check
pub mod Migrate
