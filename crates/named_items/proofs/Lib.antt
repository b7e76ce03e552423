pub mod Unfold
pub mod NamedLemmas
pub mod ShownLemmas
