pub mod Journals
pub mod Merging
pub mod Assembling
pub mod Storming
