pub mod MisfitLemmas
