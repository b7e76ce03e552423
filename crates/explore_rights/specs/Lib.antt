pub mod Rights
pub mod Held
