pub mod Views
pub mod Parts
pub mod Sent
pub mod Kept
pub mod Posts
pub mod Made
