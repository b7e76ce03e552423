pub mod Unfold
pub mod Following
pub mod WithinLemmas
pub mod TableLemmas
pub mod ChainLemmas
pub mod MarkLemmas
pub mod LawLemmas
