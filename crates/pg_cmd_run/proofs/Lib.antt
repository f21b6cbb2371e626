pub mod LoadingLemmas
pub mod RunLemmas
pub mod EndsLemmas
pub mod HybridLemmas
pub mod OneRun
mod NestLemmas
pub mod OneNested
