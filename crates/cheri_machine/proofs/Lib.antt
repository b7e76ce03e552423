pub mod HeldSteps
pub mod OpeningLemmas
