pub mod StructLemmas
pub mod Filling
pub mod VerdictLemmas
pub mod Unfold
pub mod MachineChecks
pub mod ReasonLemmas
pub mod BuildLines
