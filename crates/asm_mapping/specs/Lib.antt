-- The lines of the map of an assembled program.
pub mod Lines
pub mod Code
pub mod Memory
pub mod Mapping
