-- Facts of an event, in reading order.
pub mod Names
pub mod Operands
pub mod Losses
pub mod Whys
pub mod Traps
pub mod StepFacts
pub mod EventFacts
pub mod Stepping
pub mod ClearsLaw
pub mod TrapsLaw
pub mod StepLaw
pub mod SweepLaw
