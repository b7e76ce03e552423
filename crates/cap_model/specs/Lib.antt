-- The definitions of capabilities as numbers, in reading order.
pub mod bounds
pub mod words
pub mod values
pub mod results
