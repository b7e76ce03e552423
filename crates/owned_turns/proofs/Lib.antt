pub mod AccessLemmas
pub mod RestLemmas
pub mod WalkLemmas
pub mod StateLemmas
pub mod SearchLemmas
