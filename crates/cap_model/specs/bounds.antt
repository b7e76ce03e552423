-- Bounds: multiples, lengths, the window, rounding and alignment.
pub mod Numbers
pub mod Lengths
pub mod Window
pub mod Rounding
pub mod Alignment
