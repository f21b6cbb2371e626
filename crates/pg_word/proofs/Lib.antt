pub mod Numbers
pub mod Words
pub mod Joined
pub mod SparseLemmas
