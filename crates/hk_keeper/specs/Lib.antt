pub mod Heard
pub mod Table
pub mod Laws
