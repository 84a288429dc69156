pub mod Machine
pub mod Earned
pub mod Worked
