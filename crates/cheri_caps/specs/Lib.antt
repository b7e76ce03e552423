pub mod Structs
pub mod Checks
pub mod Reasons
