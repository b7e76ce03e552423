pub mod Unfold
pub mod TextLemmas
pub mod LineLemmas
