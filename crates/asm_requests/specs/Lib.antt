-- Requests: which harts a program is given, and how much memory.
pub mod Words
pub mod Steps
pub mod Numbers
pub mod Values
pub mod Settings
pub mod Requests
