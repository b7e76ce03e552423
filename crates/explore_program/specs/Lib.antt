-- The program: what it is asked for, what it prints, and how it ends.
pub mod Progress
pub mod Faults
pub mod Listings
pub mod Questions
pub mod Samples
pub mod Merges
pub mod Program
