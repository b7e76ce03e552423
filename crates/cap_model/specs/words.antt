-- Words: permissions' names, the fields of a word, the bounds that it says.
pub mod PermissionNames
pub mod Fields
pub mod RawBounds
pub mod WordLaws
