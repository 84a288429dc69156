pub mod Ends
pub mod Entries
pub mod Grants
pub mod Past
pub mod Wait
