pub mod ToldLemmas
pub mod AnswerLemmas
pub mod JsonLemmas
pub mod RestLemmas
