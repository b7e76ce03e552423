-- Lemmas of runs that are followed.
pub mod Followed
