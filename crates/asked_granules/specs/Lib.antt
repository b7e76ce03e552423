pub mod AskedGranules
