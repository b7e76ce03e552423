-- In reading order.
pub mod Tokens
pub mod Moves
pub mod Expressions
pub mod Drafts
pub mod Values
pub mod Grammar
