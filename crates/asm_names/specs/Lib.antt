pub mod Registers
pub mod Relocations
pub mod Directives
pub mod Sections
pub mod Outside
