-- What names of a program mean, and its capability table.
pub mod Names
pub mod Entries
pub mod Tables
