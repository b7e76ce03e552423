pub mod MemoryFaults
pub mod Packed
pub mod SweptTags
