-- What a map's lines say as they are written.
pub mod Written
