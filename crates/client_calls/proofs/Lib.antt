pub mod First
pub mod Made
pub mod Named
pub mod Places
pub mod Views
