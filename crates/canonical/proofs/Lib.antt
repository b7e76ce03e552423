pub mod Rulesets
pub mod Unfold
pub mod WriterLemmas
pub mod round_trip
