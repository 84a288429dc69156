mod Ranging
mod Lengths
mod Shared
