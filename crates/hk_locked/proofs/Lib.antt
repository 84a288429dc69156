pub mod ByRow
pub mod Keeping
pub mod Reading
pub mod Making
