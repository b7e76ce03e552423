pub mod Rows
pub mod Hashes
pub mod Slots
