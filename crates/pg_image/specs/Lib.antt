pub mod Lines
pub mod Images
pub mod Left
pub mod Forms
pub mod Placing
