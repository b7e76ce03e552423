pub mod Sinks
pub mod Failures
pub mod WriteFaults
