pub mod Majorities
pub mod Places
pub mod Clocked
pub mod Parts
pub mod Going
pub mod Beginning
pub mod Working
