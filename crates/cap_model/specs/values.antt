-- Values: capabilities, and what a register or a granule holds.
pub mod Capability
pub mod CapValue
pub mod ValueFacts
