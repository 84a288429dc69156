pub mod Runs
pub mod Begun
pub mod Council
pub mod Rate
pub mod Refusing
pub mod Guarded
pub mod Worked
