-- Harts that are asked for, and the image of a program's parts.
pub mod Asked
pub mod Harts
pub mod Image
