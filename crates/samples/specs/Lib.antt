pub mod Values
pub mod Machines
