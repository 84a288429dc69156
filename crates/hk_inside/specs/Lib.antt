pub mod Parts
pub mod Messages
pub mod Reading
pub mod Told
pub mod Laws
