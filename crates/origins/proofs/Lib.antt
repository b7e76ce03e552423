-- The lemmas behind the laws.
pub mod Made
pub mod Writes
pub mod StepOrigins
pub mod RunOrigins
pub mod Slots
pub mod Unfold
