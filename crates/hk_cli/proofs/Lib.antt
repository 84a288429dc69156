pub mod Turning
pub mod Given
pub mod Orders
pub mod Exact
pub mod Ending
