pub mod StepLemmas
pub mod EndlessLemmas
