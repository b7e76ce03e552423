pub mod ForgettingLemmas
pub mod TurnLemmas
pub mod OrderLemmas
pub mod SightLemmas
