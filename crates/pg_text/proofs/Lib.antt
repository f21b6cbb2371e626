pub mod CutSteps
pub mod Digits
pub mod Fronts
pub mod Hex
pub mod HexBytes
pub mod Places
pub mod Formed
