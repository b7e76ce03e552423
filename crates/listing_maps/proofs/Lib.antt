pub mod SymbolLemmas
pub mod NameLemmas
