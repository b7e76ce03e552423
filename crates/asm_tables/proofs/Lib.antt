pub mod Unfold
pub mod NameLemmas
