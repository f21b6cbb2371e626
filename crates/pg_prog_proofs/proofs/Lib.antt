mod ExportLemmas
mod LogLemmas
mod WordLemmas
pub mod ImportLemmas
mod TakenLemmas
pub mod ClauseLemmas
