pub mod Tables
pub mod SameStates
pub mod Tallies
pub mod Sums
pub mod Counts
pub mod Within
pub mod Claims
pub mod Known
