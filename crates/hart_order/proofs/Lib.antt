pub mod HartOrderLemmas
pub mod ArrangingLemmas
pub mod PlaceLemmas
pub mod RenamedLemmas
pub mod GroupedLemmas
pub mod RowLemmas
