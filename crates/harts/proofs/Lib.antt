pub mod ReportLemmas
pub mod SweepAnswers
pub mod CallLemmas
