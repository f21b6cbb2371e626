pub mod JudgingLemmas
pub mod Standing
pub mod StepLemmas
pub mod OpenLemmas
pub mod CloseLemmas
pub mod FormLemmas
pub mod SpellLemmas
pub mod TellLemmas
mod NameLemmas
pub mod ReachLemmas
pub mod LogReach
pub mod StateReach
pub mod FindingReach
pub mod TakeLemmas
mod KeepLemmas
mod FeedLemmas
pub mod MissingLemmas
