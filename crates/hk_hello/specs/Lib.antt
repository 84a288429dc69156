pub mod Mac
pub mod Hellos
pub mod Fields
pub mod Told
pub mod Judging
pub mod Laws
