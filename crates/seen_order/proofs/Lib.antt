pub mod Prefixes
pub mod Chains
pub mod StepsTaken
