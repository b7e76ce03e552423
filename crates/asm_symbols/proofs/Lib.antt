pub mod Unfold
pub mod NameLemmas
pub mod GlobalLemmas
pub mod Rulesets
