mod Logging
mod Bound
mod Closed
mod Ranging
