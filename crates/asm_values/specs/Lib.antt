pub mod Operators
pub mod Numbers
pub mod Values
