-- What the arguments of `cheri_explore` ask for.
pub mod Commands
pub mod Sweeps
pub mod Samples
pub mod Requests
