pub mod Unfold
pub mod StateLemmas
pub mod PageLemmas
pub mod LookLemmas
pub mod PlainTexts
pub mod PlainNames
pub mod PlainFacts
