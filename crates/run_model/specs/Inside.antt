pub mod Fields
