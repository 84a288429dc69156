pub mod Standing
pub mod Hearing
pub mod Greeting
pub mod Steps
pub mod Exchange
pub mod Laws
