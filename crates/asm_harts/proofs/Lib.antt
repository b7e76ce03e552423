pub mod Unfold
pub mod GivenLemmas
pub mod StackLemmas
