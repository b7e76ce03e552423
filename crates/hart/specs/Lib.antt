-- A hart, and what a view of a machine shows.
pub mod Hart
pub mod View
