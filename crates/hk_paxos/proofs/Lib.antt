pub mod Order
pub mod Quorums
pub mod Parts
pub mod Events
pub mod Runs
pub mod Values
mod Worked
