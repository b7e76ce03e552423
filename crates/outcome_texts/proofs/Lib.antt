pub mod Unfold
pub mod EndlessLemmas
pub mod HeadLemmas
pub mod ToldLemmas
pub mod PartLemmas
pub mod ListedLemmas
pub mod RowLemmas
pub mod AnswerLemmas
