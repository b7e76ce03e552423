pub mod Unfold
