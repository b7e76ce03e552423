-- What names mean.
pub mod Names
pub mod Definitions
pub mod Globals
pub mod Locals
