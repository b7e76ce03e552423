-- The lemmas behind the laws, by topic.
pub mod Rounding
pub mod Bounds
pub mod Words
pub mod Results
pub mod Rulesets
