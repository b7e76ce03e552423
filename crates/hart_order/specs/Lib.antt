pub mod HartOrder
pub mod Arrangements
pub mod GroupedTurns
