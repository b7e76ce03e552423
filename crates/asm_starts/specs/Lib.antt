-- What the harts of an assembled program begin with, by requests.
pub mod Known
pub mod Values
pub mod Words
pub mod Starts
pub mod Ram
