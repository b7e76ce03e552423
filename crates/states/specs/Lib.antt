pub mod Accesses
pub mod Steps
pub mod Locals
pub mod Graphs
pub mod Searches
pub mod Kept
