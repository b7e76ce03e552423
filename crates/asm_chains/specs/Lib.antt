-- In reading order.
pub mod Faults
pub mod Scenes
pub mod Chains
pub mod Tables
pub mod Orders
pub mod Settling
pub mod Marks
