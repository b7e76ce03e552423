pub mod Texts
pub mod ValueText
pub mod Names
pub mod EventText
pub mod Lines
pub mod ValueData
pub mod EventData
pub mod JsonText
