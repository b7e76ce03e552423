pub mod ReducedTexts
