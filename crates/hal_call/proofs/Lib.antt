mod Telling
mod Given
mod Short
mod Begun
mod Prints
mod Inputs
mod TraceLogTelling
