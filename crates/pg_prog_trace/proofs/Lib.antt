mod DumpLemmas
pub mod Undone
pub mod RunTexts
pub mod RunLemmas
pub mod UntilLemmas
pub mod TracingLemmas
