-- Files of assembly, read as one program.
pub mod Faults
pub mod Steps
pub mod Stands
pub mod Sections
pub mod Requests
pub mod Programs
pub mod Files
