pub mod Endings
pub mod Meant
pub mod StateTexts
