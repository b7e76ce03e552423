pub mod Faults
pub mod Cores
pub mod Runs
