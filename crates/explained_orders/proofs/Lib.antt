pub mod Unfold
pub mod ExplainedLemmas
