pub mod Lines
pub mod Spans
pub mod Sooner
pub mod Merged
pub mod Steps
