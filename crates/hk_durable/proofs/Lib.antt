pub mod Turning
pub mod Sound
pub mod Numbers
pub mod Taking
pub mod Batching
pub mod Replaying
