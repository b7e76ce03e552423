-- What the text of a map says.
pub mod Words
pub mod Lines
pub mod Sources
pub mod Reading
pub mod Drafts
