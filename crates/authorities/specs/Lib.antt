pub mod Authorities
pub mod Holders
pub mod Gathering
pub mod Merging
