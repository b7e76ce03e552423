pub mod LineLemmas
pub mod SpanLemmas
pub mod SpanLaws
pub mod NumberLemmas
pub mod MergeLemmas
pub mod LawLemmas
