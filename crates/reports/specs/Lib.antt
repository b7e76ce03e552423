pub mod Report
pub mod Json
pub mod JsonText
