-- What places are once everything has its address.
pub mod Places
pub mod Capabilities
