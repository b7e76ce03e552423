-- Results: what each capability instruction gives, and from what it derives.
pub mod EditedWords
pub mod Addresses
pub mod Fields
pub mod Seals
pub mod Readings
pub mod Rebuilt
pub mod Swept
pub mod CapInstructions
pub mod Derivation
pub mod Reasons
