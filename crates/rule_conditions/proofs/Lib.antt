pub mod ClientLaws
pub mod ErrorLaws
pub mod FailedFirst
pub mod Law
pub mod ResultLaws
pub mod ReturnLaws
pub mod SendLaws
pub mod Tests
