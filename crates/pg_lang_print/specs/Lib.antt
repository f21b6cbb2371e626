pub mod Layout
pub mod Numbers
