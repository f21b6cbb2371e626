pub mod Guards
pub mod Broken
pub mod Asking
pub mod Places
pub mod Texts
