pub mod AlikeLemmas
pub mod CycleLemmas
pub mod EndlessLemmas
