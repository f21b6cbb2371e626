pub mod LiteralLemmas
pub mod TruthLemmas
