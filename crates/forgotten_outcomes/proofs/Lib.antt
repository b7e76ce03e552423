pub mod ForgetLemmas
pub mod ToldLemmas
pub mod AnswerLemmas
pub mod KeptLemmas
