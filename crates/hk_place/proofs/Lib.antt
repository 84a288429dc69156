mod Noting
mod Ordered
mod Publishing
mod Picking
mod Cutting
mod Showing
