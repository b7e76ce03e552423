-- The last label before each instruction.
pub mod Labels
pub mod Before
