-- The values of operands.
pub mod Immediates
