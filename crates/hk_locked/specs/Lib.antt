pub mod ByRow
pub mod Doubts
pub mod Locked
pub mod Places
pub mod Steps
pub mod Makes
