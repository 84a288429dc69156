pub mod Projection
pub mod Own
pub mod Laws
pub mod Runs
pub mod Orders
pub mod Worked
