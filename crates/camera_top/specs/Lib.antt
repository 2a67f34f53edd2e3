pub mod Words
pub mod Help
pub mod Commands
pub mod Does
