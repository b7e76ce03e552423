pub mod AskedLemmas
pub mod OrderLemmas
pub mod SweepLemmas
pub mod TextFaults
