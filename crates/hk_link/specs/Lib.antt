pub mod Parcels
pub mod Share
pub mod Ends
pub mod Rule
pub mod Passes
