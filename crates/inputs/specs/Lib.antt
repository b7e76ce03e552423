-- Files as they are read, and what is said where they are refused.
pub mod Arguments
pub mod Files
pub mod Faults
pub mod Reading
