-- Instructions at a hart's PC, and what as many steps of it leave.
pub mod Stretches
pub mod Meanings
pub mod Pairs
