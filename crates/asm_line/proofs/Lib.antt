-- How `clap` reads the arguments of `cheri_asm`.
pub mod ReadArgs
