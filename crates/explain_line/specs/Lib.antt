-- What the arguments of `cheri_explain` ask for.
pub mod Requests
