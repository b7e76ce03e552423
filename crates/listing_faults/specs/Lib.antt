-- The faulty lines of a listing.
pub mod Lines
pub mod Faults
