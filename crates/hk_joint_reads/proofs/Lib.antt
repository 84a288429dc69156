pub mod Loading
pub mod Rounds
pub mod Latest
pub mod Still
pub mod Keys
