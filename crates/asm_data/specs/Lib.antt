-- What the statements of a program put into code and memory.
pub mod Data
pub mod Strings
pub mod Table
pub mod Contents
