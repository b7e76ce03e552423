pub mod EndlessTexts
pub mod Told
pub mod OutcomeTexts
pub mod ReducedTexts
pub mod OutcomeParts
pub mod Answers
