pub mod Heard
pub mod Holders
pub mod Gathering
pub mod Managers
pub mod Laws
