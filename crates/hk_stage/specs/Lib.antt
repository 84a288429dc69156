pub mod Stages
pub mod Opening
pub mod Laws
pub mod Group
