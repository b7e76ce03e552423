pub mod FoundTexts
pub mod ReducedTexts
pub mod FoundParts
pub mod Find
pub mod Reduced
