pub mod Unfold
pub mod TextLemmas
pub mod CheckLemmas
pub mod EndingLemmas
pub mod OrderLemmas
pub mod LoopLemmas
pub mod Rulesets
