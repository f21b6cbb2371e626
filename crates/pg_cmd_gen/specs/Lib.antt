pub mod Generating
pub mod Plans
pub mod Draws
pub mod Bodies
pub mod Letters
pub mod Generated
pub mod Images
pub mod Drawing
