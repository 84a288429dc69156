pub mod Loops
pub mod Puts
pub mod Sizes
pub mod Exact
pub mod Pieces
pub mod Views
pub mod Bodies
pub mod Whole
