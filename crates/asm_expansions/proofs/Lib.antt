pub mod Unfold
pub mod Levels
pub mod Lengths
