-- What an instruction asks for.
pub mod Actions
