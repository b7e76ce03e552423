pub mod RowLemmas
pub mod SlotLemmas
pub mod WordLemmas
pub mod Unfold
pub mod Rulesets
