-- Searches for the least number, exponents, and the rounding of bounds.
pub mod Searches
pub mod Exponents
pub mod Multiples
pub mod Roundings
pub mod RoundingsWithin
pub mod RoundingSteps
pub mod RoundedFields
pub mod Alignments
