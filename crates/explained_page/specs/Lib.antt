pub mod State
pub mod ScriptText
pub mod Page
pub mod PagedRuns
pub mod Look
