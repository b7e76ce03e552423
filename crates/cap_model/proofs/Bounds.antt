-- Raw bounds: the bounds that are read from a word, at each address.
pub mod RegionStarts
pub mod RegionPlaces
pub mod TopsBack
pub mod BoundsDigits
pub mod BoundsBack
pub mod RawAligned
pub mod DigitsBack
pub mod WindowsHold
pub mod WindowsEnd
