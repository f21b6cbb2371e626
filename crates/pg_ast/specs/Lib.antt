pub mod Levels
pub mod ExprTokens
pub mod Tokens
pub mod Reading
