pub mod GroupLemmas
