pub mod Count
pub mod Failing
pub mod MemFile
pub mod Shelf
pub mod ShelfView
pub mod Sink
pub mod SinkView
pub mod Told
