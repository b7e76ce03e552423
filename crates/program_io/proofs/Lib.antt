-- How a program ends.
pub mod FaultLemmas
pub mod EndingLemmas
pub mod RunLemmas
