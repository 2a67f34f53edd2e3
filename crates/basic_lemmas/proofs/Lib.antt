pub mod Tests
pub mod Lists
pub mod Counts
pub mod Ranges
pub mod Options
pub mod Shared
