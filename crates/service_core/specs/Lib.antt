pub mod Answers
pub mod Inside
pub mod Jobs
pub mod Kinds
pub mod Candidates
pub mod Finding
pub mod Walks
pub mod Looks
