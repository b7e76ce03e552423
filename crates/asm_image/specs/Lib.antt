-- From files of assembly to the image that they mean.
pub mod Whole
