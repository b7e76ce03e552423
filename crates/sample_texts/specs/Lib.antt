pub mod SampleParts
pub mod ShownRows
pub mod PropertyTexts
pub mod SampleTexts
pub mod SampleData
pub mod SampleJson
