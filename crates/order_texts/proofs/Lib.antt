pub mod BackLemmas
pub mod ReadLemmas
