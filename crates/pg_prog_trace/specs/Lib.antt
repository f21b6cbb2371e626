pub mod Plans
pub mod Until
pub mod Judging
pub mod Done
pub mod Tracing
pub mod Dumped
pub mod Calls
