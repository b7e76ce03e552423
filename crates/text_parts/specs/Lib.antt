-- A text parted at a mark.
pub mod Parts
