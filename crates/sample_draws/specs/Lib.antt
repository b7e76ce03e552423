pub mod Words
pub mod Drawings
pub mod Cycles
pub mod Ranks
pub mod Priorities
pub mod Draws
pub mod Orders
