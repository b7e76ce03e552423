-- What a program prints of its answer.
pub mod Endings
