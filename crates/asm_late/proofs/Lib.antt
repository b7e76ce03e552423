pub mod Unfold
pub mod SceneLemmas
pub mod ReachLemmas
pub mod LengthLemmas
pub mod ValueLemmas
