-- The text of the map of an assembled program.
pub mod Maps
