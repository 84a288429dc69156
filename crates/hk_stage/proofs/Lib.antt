mod Steps
mod Again
mod Two
