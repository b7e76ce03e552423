pub mod OperationLemmas
pub mod OrderLemmas
