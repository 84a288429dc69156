pub mod Suited
pub mod Records
pub mod Streams
pub mod Firsts
