pub mod Unfold
pub mod HexDigits
pub mod DoneSteps
pub mod Items
pub mod JsonLemmas
pub mod JsonTexts
pub mod JsonLists
