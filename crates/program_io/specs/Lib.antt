-- How a program ends: its faults, and what they leave of its answer.
pub mod Faults
pub mod Endings
pub mod Runs
