-- What is asked of a listing, and what is answered.
pub mod Faults
pub mod Asked
pub mod Answered
pub mod Drawn
