mod Lists
mod Known
mod Bits
