pub mod ListedLemmas
pub mod SettledLemmas
pub mod PairLemmas
pub mod ReadableLemmas
