-- The program: what it is asked for, what it prints, and how it ends.
pub mod Faults
pub mod Texts
pub mod Program
