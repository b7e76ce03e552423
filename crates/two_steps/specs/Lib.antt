-- Two steps of a core.
pub mod TwoSteps
