-- The instructions of an assembled program.
pub mod Standing
pub mod Heads
pub mod Numbers
pub mod Code
pub mod Beginning
