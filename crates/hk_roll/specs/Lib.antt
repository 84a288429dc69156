pub mod Rolls
pub mod Boards
pub mod Numbers
pub mod Steps
pub mod Group
pub mod Laws
pub mod Worked
