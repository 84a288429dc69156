pub mod Batches
pub mod Pushes
pub mod Laws
