pub mod KnownLemmas
pub mod GraphLemmas
pub mod RowLemmas
pub mod PlacedLemmas
pub mod NodeLemmas
pub mod OrderLemmas
pub mod SizedLemmas
pub mod SoughtLemmas
