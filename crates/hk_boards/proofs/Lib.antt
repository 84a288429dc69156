mod Tickets
mod Majorities
mod Gathered
mod Reached
