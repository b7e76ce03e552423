pub mod Loops
pub mod Scans
