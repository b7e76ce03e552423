pub mod Unfold
pub mod LineLemmas
pub mod AsciiLemmas
pub mod ReadingLemmas
