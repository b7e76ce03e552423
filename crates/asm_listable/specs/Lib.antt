-- What the laws ask of places and registers, and what registers may hold.
pub mod Places
pub mod Asked
pub mod Plain
