pub mod Faults
pub mod Draft
pub mod Statement
pub mod Meaning
pub mod LineNumbers
