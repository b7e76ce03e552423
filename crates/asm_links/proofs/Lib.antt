pub mod Unfold
pub mod LocalLemmas
pub mod SeenLemmas
pub mod RowLemmas
