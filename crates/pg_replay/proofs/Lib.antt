pub mod WindowLemmas
pub mod StateLemmas
pub mod SameLemmas
pub mod RunLemmas
pub mod StoreLemmas
pub mod StoredLemmas
pub mod PutLemmas
pub mod StepLemmas
