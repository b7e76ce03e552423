pub mod KnownLemmas
pub mod GraphLemmas
pub mod RowLemmas
pub mod OrderedLemmas
pub mod ReplayLemmas
pub mod NodeLemmas
pub mod SurveyLemmas
pub mod SoughtLemmas
