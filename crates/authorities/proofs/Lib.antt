pub mod Unfold
pub mod ListLemmas
pub mod AddLemmas
pub mod HolderLemmas
pub mod GatherLemmas
pub mod MergeLemmas
pub mod KeptLemmas
