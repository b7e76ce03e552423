pub mod Unfold
pub mod RunLemmas
pub mod ReplayLemmas
pub mod FoundLemmas
pub mod FindLemmas
pub mod ReducedLemmas
