pub mod Closing
pub mod Fair
pub mod Finding
pub mod LogTexts
pub mod Scripts
pub mod SessionLists
pub mod Valid
