mod First
mod Sent
mod Groups
mod Taking
