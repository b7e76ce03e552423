pub mod Unfold
pub mod ReportLines
pub mod ReportParts
pub mod JsonLemmas
pub mod JsonTexts
pub mod JsonParts
