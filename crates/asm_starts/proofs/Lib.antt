pub mod Unfold
pub mod EachLemmas
