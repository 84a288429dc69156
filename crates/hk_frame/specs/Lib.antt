pub mod Frames
pub mod Kept
pub mod Sendable
pub mod Fields
pub mod Reading
pub mod Told
pub mod Laws
