mod Options
mod Finding
pub mod Following
