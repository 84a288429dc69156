pub mod Parts
pub mod Hellos
pub mod Macs
pub mod Greetings
