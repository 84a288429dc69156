pub mod Rising
pub mod Cuts
pub mod Nexts
pub mod Pushed
pub mod Lawful
