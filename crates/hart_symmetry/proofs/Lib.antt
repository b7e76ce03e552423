pub mod SymmetryLemmas
pub mod RenamingLemmas
pub mod StepLemmas
pub mod SwapLemmas
pub mod CountLemmas
pub mod HoldingLemmas
pub mod TurnLemmas
