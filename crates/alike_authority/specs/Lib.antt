pub mod Grouped
pub mod GroupRights
pub mod Holders
pub mod AlikeAuthorityTexts
pub mod AlikeAuthority
