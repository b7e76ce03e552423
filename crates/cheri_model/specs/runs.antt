-- Runs: images, machines, replays, sweeps and authority.
pub mod Image
pub mod ImageRules
pub mod SameImages
pub mod Sweeps
pub mod Machine
pub mod Replay
pub mod Authority
