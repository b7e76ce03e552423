pub mod Counts
pub mod DigitTable
pub mod NumeralLemmas
pub mod HexDigits
pub mod NumberTexts
pub mod Unfold
pub mod Rulesets
