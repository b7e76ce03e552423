-- Words of capabilities: the fields that are read back, and words with some of them replaced.
pub mod FieldsBack
pub mod RawWords
pub mod WordsBack
pub mod AddressesMoved
pub mod FieldsReplaced
pub mod FieldsEdited
pub mod WordsEdited
pub mod BoundsRounded
