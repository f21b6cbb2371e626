pub mod CountLaws
mod FileLemmas
pub mod PutsLaws
mod ShelfLemmas
mod SinkLemmas
pub mod ToldLaws
