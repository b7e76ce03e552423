pub mod Unfold
pub mod Rulesets
pub mod EachLemmas
pub mod LabelLemmas
