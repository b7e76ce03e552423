-- What the calls of a page write and answer.
pub mod Faults
pub mod Answers
pub mod Runs
pub mod Lines
pub mod Assembly
pub mod Mapped
pub mod Searches
pub mod Faulty
