mod CutLemmas
mod ReadLemmas
mod RangeLemmas
mod StorageLemmas
pub mod SpellLemmas
mod BackLemmas
mod RoomLemmas
mod PutLemmas
mod CaptureLemmas
