pub mod Unfold
pub mod WithinLemmas
pub mod MachineLemmas
pub mod DecidedLemmas
pub mod DecidingLemmas
