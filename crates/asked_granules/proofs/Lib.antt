pub mod Unfold
pub mod AskedLemmas
pub mod HoldingLemmas
pub mod StepLemmas
