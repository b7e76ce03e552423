pub mod Slices
pub mod Sweeps
pub mod Members
pub mod Drawn
pub mod Numbers
pub mod Claimed
pub mod Lines
