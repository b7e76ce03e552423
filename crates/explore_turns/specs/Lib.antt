pub mod QuietSteps
pub mod Turns
pub mod Orders
