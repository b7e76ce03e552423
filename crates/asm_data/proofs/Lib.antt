pub mod Rulesets
pub mod Unfold
pub mod EachLemmas
pub mod StringLemmas
