pub mod SimulationLemmas
pub mod LineLemmas
