pub mod Rests
pub mod Searches
pub mod Orders
pub mod Granules
pub mod Turns
