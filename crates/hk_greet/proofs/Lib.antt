pub mod Passing
pub mod Filling
pub mod Hearings
pub mod Greetings
pub mod Meeting
