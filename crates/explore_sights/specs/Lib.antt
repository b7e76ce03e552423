pub mod Watches
pub mod Sights
