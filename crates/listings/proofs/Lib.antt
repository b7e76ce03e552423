pub mod GranuleLemmas
pub mod ImageLemmas
pub mod LineLemmas
pub mod Rulesets
pub mod Unfold
pub mod ReaderLemmas
