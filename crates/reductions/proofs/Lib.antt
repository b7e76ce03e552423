pub mod ReductionLemmas
