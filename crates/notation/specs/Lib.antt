pub mod Instructions
pub mod Permissions
