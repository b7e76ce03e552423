-- One step of one hart: memory, checks, the hart, actions.
pub mod Memory
pub mod Checks
pub mod Hart
pub mod Actions
pub mod HartStep
