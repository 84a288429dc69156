pub mod Parcels
pub mod Cut
pub mod Lending
pub mod Laws
pub mod Counted
pub mod Serving
pub mod Turns
pub mod Sending
