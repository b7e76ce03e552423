pub mod Unfold
pub mod WordLemmas
pub mod Rulesets
