pub mod Clocks
pub mod Steps
pub mod Sound
pub mod Outs
pub mod InPlace
pub mod Paced
pub mod Runs
pub mod Laws
