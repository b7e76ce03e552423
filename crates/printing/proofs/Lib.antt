-- How commands end.
pub mod EndingLemmas
pub mod LineLemmas
