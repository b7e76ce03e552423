pub mod Faults
pub mod Reports
pub mod Pasts
pub mod Calls
