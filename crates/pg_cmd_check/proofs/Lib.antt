pub mod CheckLemmas
pub mod MigrateLemmas
pub mod ReplayLemmas
