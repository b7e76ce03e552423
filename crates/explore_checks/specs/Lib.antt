pub mod CheckTexts
pub mod ReducedChecks
pub mod CheckParts
pub mod Checks
