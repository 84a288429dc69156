pub mod Fitting
pub mod Identities
pub mod Standings
pub mod Notices
pub mod Seeking
pub mod Leaving
pub mod Parts
