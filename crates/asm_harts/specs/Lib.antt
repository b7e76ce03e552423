-- What the harts of an assembled program begin with.
pub mod Registers
pub mod Harts
pub mod Given
