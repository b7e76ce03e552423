-- What the arguments of `cheri_asm` ask for.
pub mod Requests
