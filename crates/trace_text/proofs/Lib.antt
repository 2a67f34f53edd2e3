pub mod SummaryLine
pub mod Lines
