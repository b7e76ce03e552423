pub mod Unfold
pub mod CountLemmas
pub mod TableLemmas
pub mod CodeLemmas
pub mod ItemTextLemmas
pub mod OutcomeLemmas
pub mod RestLemmas
