-- The capabilities that an assembled program begins with.
pub mod Capabilities
