pub mod DraftLemmas
pub mod GrammarLemmas
pub mod ReadingLemmas
pub mod StackLemmas
pub mod TreeLemmas
pub mod Unfold
pub mod ValueLemmas
