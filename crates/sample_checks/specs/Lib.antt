pub mod Deciding
pub mod Checks
pub mod Told
