pub mod SavedFiles
pub mod Save
pub mod Resume
pub mod Plans
