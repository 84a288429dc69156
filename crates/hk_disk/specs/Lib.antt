pub mod Fakes
pub mod Writing
pub mod Appending
pub mod Calls
