mod Telling
mod Beginning
mod Passing
mod Staying
