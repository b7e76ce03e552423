pub mod Unfold
mod SameLemmas
mod RankLemmas
pub mod DrawingLemmas
pub mod ChoiceLemmas
pub mod OrderLemmas
