pub mod Running
pub mod Risen
pub mod Rises
