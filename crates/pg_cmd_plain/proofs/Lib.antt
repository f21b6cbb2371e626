pub mod BareLemmas
pub mod OneBare
pub mod MachineLemmas
pub mod ImageLemmas
pub mod OneAssembled
pub mod EndsLemmas
