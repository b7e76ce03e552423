-- What files of a program have together.
pub mod Seen
pub mod Sections
pub mod Order
pub mod Locals
pub mod Sizes
