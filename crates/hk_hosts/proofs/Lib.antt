mod Splitting
mod Colons
mod Naming
mod Reading
mod Entries
