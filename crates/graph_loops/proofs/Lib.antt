pub mod LoopLemmas
pub mod ScanLemmas
pub mod EdgeLemmas
pub mod LabelLemmas
pub mod ChainLemmas
