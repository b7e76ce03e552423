-- Values, and what each capability instruction gives.
pub mod Values
pub mod PermissionSets
pub mod AddressResults
pub mod FieldResultsMade
pub mod Rebuildings
pub mod Derivations
pub mod ReasonTables
