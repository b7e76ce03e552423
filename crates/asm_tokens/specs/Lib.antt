pub mod Faults
pub mod Places
pub mod Bytes
pub mod Escapes
pub mod Strings
pub mod Numbers
pub mod Lexemes
pub mod Tokens
