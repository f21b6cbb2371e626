pub mod GrantLaws
pub mod StoreLemmas
pub mod StepLemmas
pub mod StateLaws
mod KeepLemmas
