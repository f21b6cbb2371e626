pub mod Placing
pub mod Storing
pub mod Spying
pub mod Gliding
