pub mod ListLemmas
pub mod LoopLemmas
pub mod StepLemmas
pub mod Unfold
