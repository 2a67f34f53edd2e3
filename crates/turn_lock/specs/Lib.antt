pub mod Views
pub mod Rule
pub mod Turns
pub mod Steps
pub mod Seats
pub mod Lending
pub mod Tallies
