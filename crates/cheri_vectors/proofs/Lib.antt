pub mod HexDigits
pub mod Limits
pub mod Unfold
pub mod RowLemmas
