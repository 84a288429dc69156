pub mod Founding
pub mod Jobs
pub mod Led
