pub mod Canon
pub mod Listable
