pub mod RegisterSets
pub mod Operands
pub mod LiveSets
