pub mod Alone
mod Views
mod Naming
mod Led
pub mod Started
