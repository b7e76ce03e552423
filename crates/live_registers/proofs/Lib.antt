pub mod Unfold
pub mod SetLemmas
pub mod WriteLemmas
pub mod ActionLemmas
pub mod StepLemmas
pub mod ForgettingLemmas
pub mod ScanLemmas
