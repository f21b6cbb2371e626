pub mod Shape
pub mod Psw
pub mod Bits
pub mod Bytes
pub mod Sparse
