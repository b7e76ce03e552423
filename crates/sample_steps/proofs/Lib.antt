mod Unfold
pub mod StoreLemmas
mod HangLemmas
mod ListLemmas
