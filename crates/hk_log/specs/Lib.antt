pub mod Entries
pub mod Fields
pub mod Records
pub mod Told
pub mod Reading
pub mod Logs
pub mod Laws
