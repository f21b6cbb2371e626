pub mod UsageLaws
