-- Instructions: their forms, their names, and the operations on integers.
pub mod Form
pub mod Tables
pub mod Names
pub mod SameInstrs
pub mod Integers
