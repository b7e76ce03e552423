pub mod Symmetry
pub mod Renaming
pub mod Named
pub mod ChosenTurns
