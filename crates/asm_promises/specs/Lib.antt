-- What assembly promises of the images that it means.
pub mod Given
pub mod Stacks
pub mod Labels
pub mod Maps
pub mod Origins
