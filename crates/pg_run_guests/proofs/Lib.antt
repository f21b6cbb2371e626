pub mod TellLemmas
pub mod SummaryLemmas
pub mod ReachedLemmas
pub mod FromLemmas
pub mod SettingLemmas
pub mod BegunLemmas
pub mod StartedLemmas
pub mod RanLemmas
pub mod ToldLemmas
mod HeldLemmas
pub mod HybridRanLemmas
pub mod HybridToldLemmas
pub mod NestLemmas
