pub mod TallyLaws
pub mod BurstLaws
pub mod ServingLaws
pub mod RunLemmas
pub mod PokeLemmas
pub mod IdleLaws
pub mod StillLemmas
