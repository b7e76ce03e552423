-- The map of a listing's program, and what conditions beside the listing may name by it.
pub mod Reading
pub mod Symbols
pub mod Names
