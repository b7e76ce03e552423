-- What the program prints, and how it ends.
pub mod ExplainLemmas
pub mod MappedLemmas
pub mod ProgramLemmas
