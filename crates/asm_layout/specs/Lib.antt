-- Where the chunks of an assembled program begin.
pub mod Placement
pub mod Layout
