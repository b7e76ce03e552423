pub mod Unfold
pub mod LabelLemmas
pub mod BeforeLemmas
