pub mod NameLemmas
pub mod SkipLemmas
pub mod TellingLemmas
