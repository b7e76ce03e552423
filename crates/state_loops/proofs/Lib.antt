pub mod LabelLemmas
pub mod TurnLemmas
pub mod EndlessLemmas
pub mod KeptLemmas
pub mod CycleLemmas
