pub mod Texts
pub mod Scans
pub mod Openings
pub mod Stops
pub mod Reading
pub mod Replies
pub mod Laws
