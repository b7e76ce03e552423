pub mod PlaceGroups
pub mod RegroupLemmas
pub mod AlikeLemmas
