-- How `clap` reads the arguments of `cheri_explain`.
pub mod ReadArgs
