pub mod Patterns
pub mod Fields
pub mod Opcodes
pub mod Decoders
pub mod Values
pub mod Bodies
pub mod States
pub mod Steps
