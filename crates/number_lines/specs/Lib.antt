-- The lines about ranges and words, and the numbers that ask for them.
pub mod Lines
pub mod Numbers
