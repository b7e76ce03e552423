pub mod Unfold
pub mod Places
pub mod Gaps
