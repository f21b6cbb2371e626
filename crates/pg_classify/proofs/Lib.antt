pub mod FoundLemmas
pub mod CountLemmas
pub mod AllLemmas
