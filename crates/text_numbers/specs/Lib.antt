-- What numbers are as text.
pub mod Numerals
pub mod Hexadecimal
