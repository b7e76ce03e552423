pub mod CutLemmas
pub mod Rulesets
pub mod Unfold
