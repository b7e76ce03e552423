pub mod Handle
pub mod Openings
pub mod Machines
pub mod Texts
