pub mod Lines
pub mod Properties
pub mod Reading
