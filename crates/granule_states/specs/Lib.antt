pub mod Accesses
pub mod Graphs
pub mod Orders
pub mod Owners
pub mod Owned
