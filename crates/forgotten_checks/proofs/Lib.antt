pub mod AskedLemmas
pub mod NamedLemmas
pub mod VerdictLemmas
pub mod CheckLemmas
