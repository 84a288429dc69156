pub mod Manager
pub mod Changes
pub mod Sends
pub mod Steps
pub mod Sound
pub mod Outs
pub mod Undone
pub mod Laws
