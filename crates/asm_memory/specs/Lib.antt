-- The bytes and capabilities of an assembled program.
pub mod Memory
pub mod Numbers
