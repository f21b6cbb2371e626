pub mod Texts
pub mod Reading
pub mod Seen
pub mod Laws
pub mod WorkedTexts
