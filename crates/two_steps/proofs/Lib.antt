-- Lemmas on two steps of a core.
pub mod StepLemmas
