pub mod CallLemmas
pub mod ColourLemmas
pub mod Films
pub mod SampleLemmas
pub mod Taken
pub mod Telling
pub mod Written
