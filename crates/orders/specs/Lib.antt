pub mod Faults
pub mod Numbers
pub mod Sweeps
pub mod Orders
