pub mod CopyLemmas
pub mod ShareLemmas
