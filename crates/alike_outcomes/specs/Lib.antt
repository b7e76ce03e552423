pub mod AlikeTexts
pub mod Grouped
pub mod AlikeOutcomes
