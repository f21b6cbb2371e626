pub mod WantedLemmas
