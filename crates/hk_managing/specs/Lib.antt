pub mod Answering
pub mod Begins
pub mod Turns
pub mod Relaying
pub mod Intending
pub mod Looking
pub mod Standing
