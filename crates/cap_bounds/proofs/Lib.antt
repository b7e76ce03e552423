-- Facts about regions of addresses, and about the digits of a rounding, over plain numbers.
pub mod Regions
pub mod SameRegion
pub mod SameBounds
pub mod Windows
pub mod Digits
pub mod RoundedParts
pub mod AtZero
pub mod Masks
pub mod Unfold
