pub mod Addresses
pub mod Parts
pub mod Laws
pub mod Dialling
pub mod Lists
pub mod Now
