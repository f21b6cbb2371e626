pub mod Lengths
pub mod ReadsBack
pub mod Cuts
pub mod Words
pub mod Scans
pub mod Putting
pub mod Meaning
