pub mod Notes
pub mod Table
pub mod Sound
pub mod Same
pub mod Answered
pub mod Laws
pub mod Worked
