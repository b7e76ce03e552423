pub mod Unfold
pub mod AskedLemmas
