mod WordLemmas
pub mod DataLemmas
