-- What the program prints, and how it ends.
pub mod RunLemmas
pub mod RaceLemmas
pub mod ProgramLemmas
