pub mod QuietLemmas
pub mod RestLemmas
pub mod TurnLemmas
pub mod OrderLemmas
pub mod PassingLemmas
pub mod ImageSizes
