pub mod Fit
pub mod Grants
pub mod WorkedBases
