pub mod Over
pub mod Free
