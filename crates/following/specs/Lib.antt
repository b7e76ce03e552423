-- A run that is followed.
pub mod Following
pub mod Faults
