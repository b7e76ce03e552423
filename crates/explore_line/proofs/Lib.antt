-- How `clap` reads the arguments of `cheri_explore`, and which arguments write sweeps and numbers.
pub mod ReadArgs
pub mod SweepLemmas
pub mod NumberLemmas
