pub mod Unfold
pub mod SizeLemmas
