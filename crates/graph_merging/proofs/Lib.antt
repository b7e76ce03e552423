pub mod MergingLemmas
pub mod CountLemmas
