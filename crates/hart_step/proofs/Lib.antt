pub mod Unfold
pub mod Verdicts
