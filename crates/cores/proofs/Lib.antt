pub mod CoreLemmas
pub mod RunLemmas
pub mod SweepLemmas
pub mod Unfold
