-- Files that were read, what was made of them, and how the program ends.
pub mod TextLemmas
pub mod AnswerLemmas
pub mod ProgramLemmas
