mod Welcomed
mod Answered
mod Telling
