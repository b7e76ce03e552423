pub mod Capabilities
pub mod Harts
pub mod Settings
pub mod Starts
pub mod Asked
pub mod Plain
