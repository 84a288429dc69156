pub mod Reads
pub mod Checks
