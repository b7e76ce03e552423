-- What each file puts into each section.
pub mod Chunks
pub mod Sections
pub mod Growth
pub mod Order
