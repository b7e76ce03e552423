-- What is told, from what was written and read of it.
pub mod AnswerLemmas
pub mod RunLemmas
pub mod AssemblyLemmas
pub mod MappedLemmas
pub mod SearchLemmas
