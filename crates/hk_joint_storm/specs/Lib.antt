pub mod Keys
pub mod Kept
pub mod Gaps
pub mod Text
pub mod Concluded
