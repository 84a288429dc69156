pub mod Words
pub mod Commands
pub mod Heads
pub mod Listed
pub mod Fields
pub mod Reading
pub mod Grammar
pub mod Blocks
