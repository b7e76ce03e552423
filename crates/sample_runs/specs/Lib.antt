pub mod Memories
pub mod Runners
pub mod Runs
