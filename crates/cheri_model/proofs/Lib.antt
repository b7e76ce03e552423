-- The lemmas behind the laws, by topic.
pub mod Granules
pub mod NameLemmas
pub mod Unfold
pub mod Runs
