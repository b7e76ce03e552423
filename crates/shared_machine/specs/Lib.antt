pub mod Faults
pub mod Shares
pub mod Names
pub mod Machines
pub mod Copies
pub mod Watches
