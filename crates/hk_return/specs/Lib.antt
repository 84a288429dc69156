pub mod Lives
pub mod Machine
pub mod Guarded
pub mod Worked
pub mod Log
pub mod Group
pub mod WorkedLog
