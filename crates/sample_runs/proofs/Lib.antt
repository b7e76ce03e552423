pub mod Unfold
mod MemoryLemmas
mod DrawLemmas
pub mod RunLemmas
mod HungLemmas
mod EndLemmas
pub mod OpenLemmas
mod NextLemmas
mod WholeLemmas
