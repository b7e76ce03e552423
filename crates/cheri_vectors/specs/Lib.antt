pub mod Texts
pub mod Words
pub mod Ranges
pub mod Addresses
pub mod Values
pub mod Vectors
