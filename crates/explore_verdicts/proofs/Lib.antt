pub mod WatchLemmas
pub mod VerdictLemmas
