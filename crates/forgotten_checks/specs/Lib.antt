pub mod Asked
pub mod StateVerdicts
pub mod StateChecks
