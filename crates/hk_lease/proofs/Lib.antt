pub mod Middle
pub mod Noted
pub mod Least
pub mod Back
