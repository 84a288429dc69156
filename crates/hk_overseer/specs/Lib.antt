pub mod Sends
pub mod Overseer
pub mod Turns
