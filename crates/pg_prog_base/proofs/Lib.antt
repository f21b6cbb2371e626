pub mod CertLemmas
pub mod RightLemmas
pub mod LineLemmas
pub mod ReplaceLemmas
pub mod CommentLemmas
pub mod Texts
