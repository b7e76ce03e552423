-- In reading order.
pub mod Scene
pub mod Values
pub mod Lengths
pub mod Reach
pub mod Linked
pub mod Late
