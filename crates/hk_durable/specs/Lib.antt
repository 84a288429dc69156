pub mod Batches
pub mod Turns
pub mod Laws
pub mod Replays
