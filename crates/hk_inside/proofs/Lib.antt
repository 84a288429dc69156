mod Parts
mod Boards
mod Messages
mod Framing
mod Sizes
mod ReadAgain
