-- In reading order.
pub mod Drafts
pub mod Marks
pub mod Forms
pub mod Operations
pub mod Choosing
pub mod Fences
pub mod Operands
pub mod Lists
pub mod Instructions
pub mod SectionNames
pub mod Flags
pub mod Sections
pub mod Directives
pub mod Statements
