pub mod Laying
pub mod Listing
pub mod Pieces
pub mod ReadsBack
pub mod Spelt
