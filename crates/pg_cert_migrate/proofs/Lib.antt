pub mod LogLemmas
pub mod ReadLemmas
pub mod RangeLemmas
pub mod MadeLemmas
pub mod KeepLemmas
pub mod FamilyLemmas
