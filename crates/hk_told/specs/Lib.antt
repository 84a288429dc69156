pub mod Answers
pub mod Held
pub mod Kept
pub mod Lists
pub mod Moves
pub mod Shown
pub mod Steps
