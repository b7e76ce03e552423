-- The definitions of the machine, in reading order.
pub mod instructions
pub mod steps
pub mod runs
