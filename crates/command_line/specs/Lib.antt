-- What arguments ask for.
pub mod Faults
pub mod Arguments
pub mod Found
pub mod Numbers
pub mod Commands
pub mod Requests
