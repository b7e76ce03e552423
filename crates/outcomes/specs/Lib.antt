pub mod Outcomes
pub mod Items
pub mod ItemTexts
pub mod Rows
