pub mod Unfold
pub mod StepLemmas
