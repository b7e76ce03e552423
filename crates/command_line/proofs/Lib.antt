-- How `clap` reads the arguments of the programs, and which arguments write numbers.
pub mod ReadArgs
pub mod NumberLemmas
pub mod Rulesets
