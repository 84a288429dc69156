pub mod Prefixes
pub mod Shows
pub mod Keeping
pub mod Using
pub mod Rooms
pub mod Packing
pub mod Lists
pub mod Leasing
