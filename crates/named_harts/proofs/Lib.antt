pub mod Unfold
pub mod SetLemmas
pub mod StackLemmas
