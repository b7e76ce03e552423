pub mod ListingLemmas
pub mod QuestionLemmas
pub mod SampleLemmas
pub mod ProgramLemmas
