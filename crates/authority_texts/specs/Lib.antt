pub mod Told
pub mod AuthorityTexts
pub mod Answers
