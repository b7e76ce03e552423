pub mod AnswerLemmas
pub mod JsonLemmas
pub mod LoadLemmas
pub mod MeantLemmas
pub mod Unfold
pub mod Rulesets
