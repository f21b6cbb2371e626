pub mod AgreeingBursts
pub mod DirectCounts
pub mod PresentLemmas
pub mod SegmentLemmas
pub mod LevelLemmas
