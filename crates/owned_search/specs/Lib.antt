pub mod Graphs
pub mod Nodes
pub mod Sought
