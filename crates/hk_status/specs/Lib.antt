pub mod Words
pub mod Views
pub mod Lines
pub mod Limits
pub mod Worked
