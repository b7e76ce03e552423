pub mod Unfold
pub mod OpenedHarts
pub mod SweptHarts
