pub mod Unfold
pub mod RightsLemmas
pub mod HeldLemmas
