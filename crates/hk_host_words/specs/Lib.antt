pub mod Options
pub mod Words
pub mod Reading
pub mod Secrets
pub mod Verbosities
