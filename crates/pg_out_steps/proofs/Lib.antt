pub mod StepLemmas
pub mod HandlingLemmas
pub mod AnywhereLemmas
pub mod TallyLemmas
pub mod TraceLemmas
pub mod DumpLemmas
