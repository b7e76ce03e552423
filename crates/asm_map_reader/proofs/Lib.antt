pub mod Unfold
pub mod TextLemmas
pub mod DraftLemmas
pub mod ReadingLemmas
