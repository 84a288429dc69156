mod Sound
mod Turning
