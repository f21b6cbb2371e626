pub mod Exported
pub mod Saved
