pub mod Chain
pub mod Council
pub mod Agreed
pub mod Worked
