pub mod ReducedLemmas
pub mod LeftLemmas
pub mod AnswerLemmas
pub mod AskedLemmas
