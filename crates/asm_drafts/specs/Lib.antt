-- What the statements of files make, one after another.
pub mod Drafts
pub mod Early
pub mod Operands
pub mod Labels
pub mod Sections
pub mod Names
pub mod Kept
pub mod Padding
pub mod Bytes
pub mod Code
pub mod Statements
