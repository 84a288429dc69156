pub mod Lasting
pub mod Undoing
pub mod Listing
pub mod Covering
pub mod Keeping
pub mod Reading
mod Following
