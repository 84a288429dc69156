pub mod Waiting
pub mod Framing
pub mod Keeping
pub mod Counting
pub mod Gathered
pub mod Putting
mod Batched
