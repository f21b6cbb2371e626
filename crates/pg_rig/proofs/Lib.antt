pub mod StoreLemmas
pub mod StepLemmas
pub mod KeepLemmas
pub mod GlideLemmas
