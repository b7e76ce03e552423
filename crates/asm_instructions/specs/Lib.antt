-- The instructions of an assembled program.
pub mod Sources
pub mod Overwriting
pub mod Exits
pub mod Origins
