-- Files that were refused, as faults of a program.
pub mod InputLemmas
