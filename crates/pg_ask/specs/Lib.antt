pub mod Unknowns
pub mod There
pub mod Fits
pub mod Ends
pub mod Ended
pub mod Question
pub mod Asked
pub mod Means
