pub mod OrderLemmas
pub mod SearchLemmas
pub mod WitnessLemmas
pub mod TreeLemmas
mod RoundLemmas
mod JoinLemmas
