pub mod Numbered
pub mod Values
pub mod Codes
pub mod Memories
pub mod Stores
