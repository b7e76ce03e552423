-- What an instruction of assembly stands for, in reading order.
pub mod Immediates
pub mod Constants
pub mod Expansions
