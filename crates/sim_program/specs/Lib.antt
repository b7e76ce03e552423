-- The program: what it is asked for, what it prints, and how it ends.
pub mod Answers
pub mod Faults
pub mod Endings
pub mod Runs
pub mod Races
pub mod Program
