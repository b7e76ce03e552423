pub mod Rulesets
pub mod Unfold
