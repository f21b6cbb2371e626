pub mod Folds
pub mod PatternLemmas
pub mod OpcodeLemmas
pub mod DecoderLemmas
pub mod ValueEquations
pub mod DeedEquations
pub mod StepLaws
