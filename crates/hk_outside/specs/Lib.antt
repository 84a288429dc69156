pub mod Causes
pub mod Counts
pub mod Desk
pub mod Records
pub mod Status
pub mod First
pub mod Dialling
pub mod Late
