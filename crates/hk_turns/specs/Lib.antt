pub mod Requests
pub mod Rounds
pub mod Workers
pub mod Turns
