pub mod Formulas
pub mod Items
pub mod Values
pub mod Holding
pub mod Hiding
pub mod Entries
pub mod Parts
pub mod Units
