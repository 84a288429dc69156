pub mod Process
pub mod Sending
pub mod Serving
