pub mod Tools
pub mod Words
pub mod Help
pub mod Commands
