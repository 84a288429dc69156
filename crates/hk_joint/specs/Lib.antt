pub mod Joint
pub mod Placing
pub mod Batch
pub mod Legal
pub mod Worked
