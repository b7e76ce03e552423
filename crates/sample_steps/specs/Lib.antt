pub mod Writes
pub mod Hangs
