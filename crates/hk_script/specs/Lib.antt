pub mod Words
pub mod Grammar
pub mod Reading
pub mod Parts
pub mod Lines
pub mod Drawn
