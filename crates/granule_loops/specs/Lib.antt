pub mod GranuleLoops
