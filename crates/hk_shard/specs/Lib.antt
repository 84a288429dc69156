pub mod Laws
pub mod Publishing
pub mod Reading
pub mod Replaced
pub mod Shard
pub mod Shown
