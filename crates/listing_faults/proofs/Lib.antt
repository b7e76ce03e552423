-- What lines and readings of them make.
pub mod LineLemmas
pub mod Unfold
pub mod FaultLemmas
