pub mod Unfold
pub mod Rulesets
