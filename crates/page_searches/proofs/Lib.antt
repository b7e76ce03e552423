-- What was asked, from what was read, and from numbers.
pub mod AskedLemmas
pub mod Limits
pub mod SampleLemmas
