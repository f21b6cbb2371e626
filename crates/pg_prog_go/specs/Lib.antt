pub mod Going
pub mod Plans
pub mod Bare
pub mod Calls
