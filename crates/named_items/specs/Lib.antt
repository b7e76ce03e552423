pub mod NamedItems
