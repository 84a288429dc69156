mod Merging
mod Assembling
mod Storming
