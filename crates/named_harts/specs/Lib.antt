pub mod NamedHarts
