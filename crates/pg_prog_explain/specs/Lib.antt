pub mod Explaining
pub mod Mended
pub mod Calls
