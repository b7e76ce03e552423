pub mod Making
pub mod Unpacked
pub mod Tagged
