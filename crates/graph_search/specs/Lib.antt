pub mod Walks
pub mod Graphs
pub mod Trees
pub mod Searches
pub mod Rounds
